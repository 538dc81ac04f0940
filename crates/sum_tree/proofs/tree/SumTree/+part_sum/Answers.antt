use Rattle.std.proofs.Common.{rules, ◌≡◌, ◌+◌, ◌-◌, ◌<◌, List, drop, [], ap, sym, subst, ◌∙◌, arith}
use Rattle.std.specs.Prelude.{IfOk, IfSome}
use Rattle.sum_tree.specs.Laws.{fold}
use Rattle.sum_tree.specs.Seen.{Seen}
use Rattle.sum_tree.proofs.Folds.{fits_take, fits_drop}
use Rattle.sum_tree.proofs.Nodes.{leaf_of}
use Rattle.sum_tree.proofs.Descents.{node_step}
use Rattle.sum_tree.proofs.Exchanging.{step_part}
use Rattle.sum_tree.proofs.tree.SumTree.+part_sum.Goals as goal

pub part_sum-requires : goal.part_sum-requires
part_sum-requires g t' c κs within' =
    let st = node_step c.in-Some.k c.in-Some.first c.args.count c.args.from [] c.self.view_is c.deref.ensures c.in-Inner.is c.self.invariant.0 c.deref-in-Inner.ensures.value c.in-Some.ensures.some c.index.ensures in
    let within = st.within in
    let lower : c.index.result.now.height < c.args.self.now.height = omega (arith, st.child.lower) in
    search rules

pub entries_sum-requires : goal.entries_sum-requires
entries_sum-requires g t' c =
    let laws = g.met.T.Summary.Summary.laws in
    let leaf = leaf_of c.self.view_is c.deref.ensures c.in-Leaf.is c.self.invariant.0 in
    let xs = c.deref-in-Leaf.result.now in
    let same = ap (λ (q : Seen _). q.items) c.self.view_is ∙ leaf.items ∙ sym c.deref-in-Leaf.ensures.value in
    let all = subst (λ (zs : List _). g.T.Summary.Summary.fits (fold g.T.Summary.Summary.empty g.T.Summary.Summary.op g.T.Item.sum_of zs)) same c.self.invariant.3 in
    record { fits = fits_take laws g.T.Item.sum_of g.met.T.Item.admitted (drop c.args.from xs) (c.args.from + c.args.count - c.args.from) (fits_drop laws g.T.Item.sum_of g.met.T.Item.admitted xs c.args.from all) }

pub returns-in-Some : goal.returns-in-Some
returns-in-Some g t' c =
    let st = node_step c.in-Some.k c.in-Some.first c.args.count c.args.from [] c.self.view_is c.deref.ensures c.in-Inner.is c.self.invariant.0 c.deref-in-Inner.ensures.value c.in-Some.ensures.some c.index.ensures in
    subst (λ (zs : List _). IfOk c.part_sum.result (λ o. IfSome o (λ s. s ≡ fold g.T.Summary.Summary.empty g.T.Summary.Summary.op g.T.Item.sum_of zs))) (sym (step_part st)) c.part_sum.ensures
