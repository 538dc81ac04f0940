use Rattle.std.proofs.Common.{◌+◌, ◌≤◌, length, take}
use Rattle.std.specs.List.{AllByRecursion, sum_by}
use Rattle.lamport_clock.specs.declared.stamp.Lamport.{Lamport}
use Rattle.remote_edit.specs.Finds.{IsFound, HaveConcerned}
use Rattle.remote_edit.specs.Looks.{edit_looks}
use Rattle.remote_edit.proofs.by_index.places_by_index.Given as goal

abbrev pub invariant-loop-edit : goal.invariant-loop-edit
invariant-loop-edit g l = record {
  found : IsFound l.tree.items l.index → AllByRecursion (λ (t : Lamport). HaveConcerned l.tree.items t l.places.items) (take l.edit-index l.edits);
  few : length l.places.items + l.initial.steps ≤ l.steps;
  cost : IsFound l.tree.items l.index → l.steps ≤ l.initial.steps + sum_by (edit_looks l.tree.items l.index.deletions) (take l.edit-index l.edits);
}
