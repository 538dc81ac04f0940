use Rattle.std.proofs.Common.{◌≡◌, ◌+◌, ◌≤◌, ◌++◌, length}
use Rattle.std.specs.List.{All}
use Rattle.std.specs.Vec.Iter.{into_iter_items}
use Rattle.sum_tree.specs.Shape.{IsChild, join_items}
use Rattle.sum_tree.specs.Groups.{elements, IsGroup}
use Rattle.sum_tree.proofs.list.inner_level.Given as goal

abbrev pub invariant-loop-group : goal.invariant-loop-group
invariant-loop-group g l =
    (goal.iterator-loop-group g).can_next l.group-iterator ×
    (goal.iterator-loop-group g).is_finite l.group-iterator ×
    (join_items l.nodes.items ++ join_items (elements (into_iter_items l.group-iterator)) ≡ join_items (elements l.fn.groups.items)) ×
    All IsGroup (into_iter_items l.group-iterator) ×
    All (IsChild l.height) (elements (into_iter_items l.group-iterator)) ×
    All (IsChild (l.height + 1)) l.nodes.items ×
    (length l.nodes.items + length (into_iter_items l.group-iterator) ≡ length l.fn.groups.items) ×
    (l.steps ≤ l.fn.steps + length l.nodes.items)
