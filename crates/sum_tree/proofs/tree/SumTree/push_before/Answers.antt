use Rattle.std.proofs.Common.{◌≡◌, Option, [], ◌∷◌, ap, sym, subst, ◌∙◌, arith}
use Rattle.std.specs.Prelude.{IfSome}
use Rattle.sum_tree.specs.Laws.{fold}
use Rattle.sum_tree.specs.Seen.{Seen}
use Rattle.sum_tree.proofs.Folds.{fits_right, fold_single}
use Rattle.sum_tree.proofs.Heres.{pushed_some}
use Rattle.sum_tree.proofs.tree.SumTree.push_before.Goals as goal

pub single-requires : goal.single-requires
single-requires g c =
    let back : c.in-Some.entry ≡ c.args.item = (pushed_some c.args.self.now c.push_here.new.self c.in_ok-new.field-0 c.in-Some.entry _ c.in-Some.is c.in_ok-push_here.ensures.pushed).1 ∙ c.in_ok-new.ensures in
    subst (λ (x : _). g.T.Summary.Summary.fits (fold g.T.Summary.Summary.empty g.T.Summary.Summary.op g.T.Item.sum_of (x ∷ []))) (sym back) (fits_right g.met.T.Summary.Summary.laws g.T.Item.sum_of g.met.T.Item.admitted c.args.self.now.items (c.args.item ∷ []) c.requires.fits)

pub new-requires : goal.new-requires
new-requires g c =
    subst g.T.Summary.Summary.fits (fold_single g.met.T.Summary.Summary.laws g.T.Item.sum_of g.met.T.Item.admitted c.args.item) (fits_right g.met.T.Summary.Summary.laws g.T.Item.sum_of g.met.T.Item.admitted c.args.self.now.items (c.args.item ∷ []) c.requires.fits)

pub returns-in_err-other-in-Some-clause-cost : goal.returns-in_err-other-in-Some-clause-cost
returns-in_err-other-in-Some-clause-cost g c =
    let unticked : c.push_here.new.steps ≡ c.args.steps.now = subst (λ (o : Option _). IfSome o (λ _. c.push_here.new.steps ≡ c.args.steps.now)) c.in-Some.is c.in_ok-push_here.ensures.back in
    omega (arith, unticked, c.single.ensures.cost)

pub returns-in_err-whole-in-Some-clause-cost : goal.returns-in_err-whole-in-Some-clause-cost
returns-in_err-whole-in-Some-clause-cost g c =
    let unticked : c.push_here.new.steps ≡ c.args.steps.now = subst (λ (o : Option _). IfSome o (λ _. c.push_here.new.steps ≡ c.args.steps.now)) c.in-Some.is c.in_ok-push_here.ensures.back in
    let same = (pushed_some c.args.self.now c.push_here.new.self c.in_ok-new.field-0 c.in-Some.entry _ c.in-Some.is c.in_ok-push_here.ensures.pushed).0 in
    let height : c.push_here.new.self.height ≡ c.args.self.now.height = ap (λ (q : Seen _). q.height) same in
    omega (arith, unticked, height, c.single.ensures.cost, c.in_ok-other-in-Some.ensures.height, c.both.ensures.cost)
