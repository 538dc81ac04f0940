use Rattle.std.proofs.Common.{◌+◌, ◌≤◌, length}
use Rattle.std.specs.List.{count_by}
use Rattle.remote_edit.specs.Finds.{IsFound, HaveAll}
use Rattle.remote_edit.specs.Looks.{begins_in}
use Rattle.remote_edit.proofs.Finds.{Above}
use Rattle.remote_edit.proofs.by_index.find_cells.Given as goal

abbrev pub invariant-loop-place : goal.invariant-loop-place
invariant-loop-place g l = record {
  kept : HaveAll l.initial.places.items l.places.items;
  above : (found : IsFound l.tree.items l.index) → Above l.tree.items l.index found l.stamp l.cell l.last l.places.items;
  few : length l.places.items + l.initial.steps ≤ length l.initial.places.items + l.steps;
  cost : IsFound l.tree.items l.index → l.steps + count_by (begins_in l.stamp l.from l.cell) l.tree.items ≤ l.initial.steps + count_by (begins_in l.stamp l.from l.last) l.tree.items;
}

abbrev pub decreases-loop-place : goal.decreases-loop-place
decreases-loop-place g l = l.cell
