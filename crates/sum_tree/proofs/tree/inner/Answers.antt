use Rattle.std.proofs.Common.{◌+◌, ◌^◌, ◌≤◌, ap, sym, subst, length, arith}
use Rattle.sum_tree.specs.Seen.{Seen}
use Rattle.sum_tree.specs.Shape.{join_items}
use Rattle.sum_tree.proofs.Children.{step_len, many_enough, joined-take_le}
use Rattle.sum_tree.proofs.Heights.{of_ok}
use Rattle.sum_tree.proofs.tree.inner.Goals as goal

pub overflow_add-len : goal.overflow_add-len
overflow_add-len g c =
    omega (arith, step_len c.deref-child-items.result.now c.loop-child.child-index c.child-item.result c.loop-child.len c.len-len.result c.loop-child-test.true c.child-item.is c.loop-child.invariant c.len-len.ensures, joined-take_le c.deref-child-items.result.now (c.loop-child.child-index + 1), ap (λ ts. length (join_items ts)) c.deref-child-items.ensures.value, c.requires.short)

pub loop-child-preserved : goal.loop-child-preserved
loop-child-preserved g c =
    step_len c.deref-child-items.result.now c.loop-child.child-index c.child-item.result c.loop-child.len c.len-len.result c.loop-child-test.true c.child-item.is c.loop-child.invariant c.len-len.ensures

pub returns-clause-many : goal.returns-clause-many
returns-clause-many g c =
    of_ok c.tree_of.result c.tree_of.ensures.tree (λ t e. subst (λ (s : Seen _). 6 ≤ s.width → 6 ^ (s.height + 1) ≤ length s.items) (sym e) (λ l. many_enough c.args.height c.args.children.items c.requires.children l))

pub returns-clause-items : goal.returns-clause-items
returns-clause-items g c = of_ok c.tree_of.result c.tree_of.ensures.tree (λ t e. ap (λ (s : Seen _). s.items) e)

pub returns-clause-height : goal.returns-clause-height
returns-clause-height g c = of_ok c.tree_of.result c.tree_of.ensures.tree (λ t e. ap (λ (s : Seen _). s.height) e)

pub returns-clause-width : goal.returns-clause-width
returns-clause-width g c = of_ok c.tree_of.result c.tree_of.ensures.tree (λ t e. ap (λ (s : Seen _). s.width) e)
