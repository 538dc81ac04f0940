use Rattle.std.proofs.Common.{◌≡◌, ℕ, ◌<◌, ◌≤◌, ◌-◌, length, take, get_or, false}
use Rattle.std.specs.Option.{option_copied}
use Rattle.undo_map.specs.declared.entry.UndoEntry.{UndoEntry}
use Rattle.undo_map.specs.Counts.{greatest, counts_for, is_earlier}
use Rattle.undo_map.proofs.map.greatest.Given as goal

abbrev pub invariant-loop-entry : goal.invariant-loop-entry
invariant-loop-entry l = record {
  items : l.cursor.items ≡ l.entries.items;
  within : l.cursor.index ≤ length l.entries.items;
  late : (k : ℕ) (d : UndoEntry) → l.cursor.index ≤ k → k < length l.entries.items → is_earlier l.edit (get_or l.entries.items k d) ≡ false;
  so_far : l.greatest ≡ greatest (counts_for l.edit (option_copied l.at)) (take l.cursor.index l.entries.items);
}

abbrev pub decreases-loop-entry : goal.decreases-loop-entry
decreases-loop-entry l = length l.entries.items - l.cursor.index
