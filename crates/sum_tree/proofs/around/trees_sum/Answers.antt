use Rattle.std.proofs.Common.{◌∷◌, sym, ap, subst, ◌∙◌, arith}
use Rattle.std.proofs.lemmas.List.{take_all}
use Rattle.sum_tree.specs.Seen.{Seen}
use Rattle.sum_tree.specs.Laws.{fold}
use Rattle.sum_tree.proofs.Children.{all_joined}
use Rattle.sum_tree.proofs.Folds.{fold_admitted, last_fits, next_sum, next_fits}
use Rattle.sum_tree.proofs.around.trees_sum.Goals as goal

pub add_before-requires-clause-sum : goal.add_before-requires-clause-sum
add_before-requires-clause-sum g c =
    let total = fold g.T.Summary.Summary.empty g.T.Summary.Summary.op g.T.Item.sum_of in
    let fits = subst g.T.Summary.Summary.fits (sym (all_joined g.met.T.Summary.Summary.laws g.T.Item.sum_of g.met.T.Item.admitted c.args.trees.now)) c.requires.fits in
    last_fits g.met.T.Summary.Summary.laws (λ t. total t.items) (λ t. fold_admitted g.met.T.Summary.Summary.laws g.T.Item.sum_of g.met.T.Item.admitted t.items) c.args.trees.now c.in-Some.first.now c.in-Some.rest.now c.loop-tree.tree-index c.loop-tree.last.now c.loop-tree.sum c.summary.result.now c.in-Some.ensures.cases.0 fits c.loop-tree.invariant c.summary.ensures

pub add_before-requires-clause-both : goal.add_before-requires-clause-both
add_before-requires-clause-both g c =
    let total = fold g.T.Summary.Summary.empty g.T.Summary.Summary.op g.T.Item.sum_of in
    let fits = subst g.T.Summary.Summary.fits (sym (all_joined g.met.T.Summary.Summary.laws g.T.Item.sum_of g.met.T.Item.admitted c.args.trees.now)) c.requires.fits in
    next_fits g.met.T.Summary.Summary.laws (λ t. total t.items) (λ t. fold_admitted g.met.T.Summary.Summary.laws g.T.Item.sum_of g.met.T.Item.admitted t.items) c.args.trees.now c.in-Some.first.now c.in-Some.rest.now c.loop-tree.tree-index c.tree-item.result c.loop-tree.last.now c.loop-tree.sum c.summary.result.now c.summary-in-loop-tree.result.now c.in-Some.ensures.cases.0 fits c.loop-tree-test.true c.tree-item.is c.loop-tree.invariant c.summary.ensures c.summary-in-loop-tree.ensures

pub loop-tree-preserved : goal.loop-tree-preserved
loop-tree-preserved g c =
    let total = fold g.T.Summary.Summary.empty g.T.Summary.Summary.op g.T.Item.sum_of in
    ap (g.T.Summary.Summary.op c.add_before.new.self) (sym c.summary-in-loop-tree.ensures) ∙ c.in_ok-add_before.ensures.ok ∙ next_sum g.met.T.Summary.Summary.laws (λ t. total t.items) (λ t. fold_admitted g.met.T.Summary.Summary.laws g.T.Item.sum_of g.met.T.Item.admitted t.items) c.in-Some.first.now c.in-Some.rest.now c.loop-tree.tree-index c.tree-item.result c.loop-tree.last.now c.loop-tree.sum c.summary.result.now c.summary-in-loop-tree.result.now c.loop-tree-test.true c.tree-item.is c.loop-tree.invariant c.summary.ensures c.summary-in-loop-tree.ensures

pub add-requires : goal.add-requires
add-requires g c =
    let total = fold g.T.Summary.Summary.empty g.T.Summary.Summary.op g.T.Item.sum_of in
    let fits = subst g.T.Summary.Summary.fits (sym (all_joined g.met.T.Summary.Summary.laws g.T.Item.sum_of g.met.T.Item.admitted c.args.trees.now)) c.requires.fits in
    last_fits g.met.T.Summary.Summary.laws (λ t. total t.items) (λ t. fold_admitted g.met.T.Summary.Summary.laws g.T.Item.sum_of g.met.T.Item.admitted t.items) c.args.trees.now c.in-Some.first.now c.in-Some.rest.now c.loop-tree.tree-index c.loop-tree.last.now c.loop-tree.sum c.summary-2.result.now c.in-Some.ensures.cases.0 fits c.loop-tree.invariant c.summary-2.ensures

pub returns : goal.returns
returns g c =
    let sum_of = λ (t : Seen _). fold g.T.Summary.Summary.empty g.T.Summary.Summary.op g.T.Item.sum_of t.items in
    let part = c.in_ok-add.ensures.ok ∙ ap (g.T.Summary.Summary.op c.loop-tree.sum) c.summary-2.ensures ∙ c.loop-tree.invariant in
    let end = take_all c.loop-tree.tree-index c.in-Some.rest.now (omega (arith, c.loop-tree-test.false)) in
    let all = ap (λ ts. c.in-Some.first.now ∷ ts) end ∙ sym c.in-Some.ensures.cases.0 in
    part ∙ ap (fold g.T.Summary.Summary.empty g.T.Summary.Summary.op sum_of) all ∙ all_joined g.met.T.Summary.Summary.laws g.T.Item.sum_of g.met.T.Item.admitted c.args.trees.now
