use Rattle.std.proofs.Common.{◌≡◌, ◌<◌, ◌≤◌, ◌++◌, length, reverse}
use Rattle.std.specs.List.{All}
use Rattle.sum_tree.specs.Groups.{elements, IsGroup}
use Rattle.sum_tree.proofs.list.groups.Given as goal

abbrev pub invariant-loop-items : goal.invariant-loop-items
invariant-loop-items g l =
    (l.items.items ++ elements (reverse l.groups.items) ≡ l.fn.items.items) × All IsGroup l.groups.items × (0 < length l.items.items → 6 ≤ length l.items.items)

abbrev pub decreases-loop-items : goal.decreases-loop-items
decreases-loop-items g l = length l.items.items
