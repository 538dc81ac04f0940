use Rattle.std.proofs.Common.{◌≡◌, length, take}
use Rattle.sum_tree.specs.Shape.{join_items}
use Rattle.sum_tree.proofs.tree.inner.Given as goal

abbrev pub invariant-loop-child : goal.invariant-loop-child
invariant-loop-child g l = l.len ≡ length (join_items (take l.child-index l.child-items))
