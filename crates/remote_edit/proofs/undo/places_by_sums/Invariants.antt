use Rattle.std.proofs.Common.{◌≡◌, ◌≤◌, ◌-◌, length}
use Rattle.remote_edit.proofs.BySums.{HavePassed}
use Rattle.remote_edit.proofs.undo.places_by_sums.Given as goal

abbrev pub invariant-loop-places : goal.invariant-loop-places
invariant-loop-places l = record {
  items : l.found.items ≡ l.tree.items;
  keep : l.found.keep.edits.now ≡ l.edits;
  within : l.found.next ≤ length l.tree.items;
  passed : HavePassed l.tree.items l.edits l.found.next l.places.items;
}

abbrev pub decreases-loop-places : goal.decreases-loop-places
decreases-loop-places l = length l.tree.items - l.found.next
