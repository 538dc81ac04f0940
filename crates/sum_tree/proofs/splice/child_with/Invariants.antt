use Rattle.std.proofs.Common.{◌≡◌, ◌+◌, ◌<◌, length, take}
use Rattle.sum_tree.specs.Shape.{join_items}
use Rattle.sum_tree.proofs.splice.child_with.Given as goal

abbrev pub invariant-loop-k : goal.invariant-loop-k
invariant-loop-k g l = (length (join_items (take l.k l.children)) + l.rest ≡ l.from) × (0 < l.k → 0 < l.rest + l.count)
