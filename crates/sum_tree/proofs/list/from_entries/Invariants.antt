use Rattle.std.proofs.Common.{◌≡◌, ◌+◌, ◌*◌, ◌≤◌, length}
use Rattle.std.specs.List.{All}
use Rattle.sum_tree.specs.Shape.{IsChild, join_items}
use Rattle.sum_tree.proofs.list.from_entries.Given as goal

abbrev pub invariant-loop-alloc : goal.invariant-loop-alloc
invariant-loop-alloc g l = (join_items l.nodes.items ≡ l.fn.entries.items) × All (IsChild l.height) l.nodes.items × (2 ≤ length l.nodes.items) × (3 * (l.steps + length l.nodes.items) ≤ 3 * l.fn.steps + length l.fn.entries.items) × (6 * (l.height + length l.nodes.items) ≤ length l.fn.entries.items + 6)

abbrev pub decreases-loop-alloc : goal.decreases-loop-alloc
decreases-loop-alloc g l = length l.nodes.items
