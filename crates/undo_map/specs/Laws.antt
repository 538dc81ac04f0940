-- Laws of the undo counts of a history.
use Rattle.std.specs.Prelude.{◌≡◌, ◌≤◌, length}
use Rattle.lamport_clock.specs.declared.stamp.Lamport.{Lamport}
use Rattle.lamport_clock.specs.Versions.{Entries}
use Rattle.op_model.specs.Histories.{History, seen_history, entries_held}
use Rattle.op_model.specs.Shown.{count, is_undone}
use Rattle.op_model.specs.Lawful.{Lawful}
use Rattle.undo_map.specs.Counts.{count_of, count_seen, is_odd}
use Rattle.undo_map.specs.Undos.{undo_entries, number_of_counts}

-- the entries of a history count as the history does, now and at each version
abbrev pub CountsAreOfHistory : Type 0
CountsAreOfHistory = (h : History) (t : Lamport)
    → (count_of (undo_entries h) t ≡ count h t)
    × (is_odd (count_of (undo_entries h) t) ≡ is_undone h t)
    × ((v : Entries) → count_seen (undo_entries h) t v ≡ count (seen_history h v) t)
    × ((v : Entries) → is_odd (count_seen (undo_entries h) t v) ≡ is_undone (seen_history h v) t)

-- the entries of a history are no more than the undos of it have counts
abbrev pub EntriesAreCounts : Type 0
EntriesAreCounts = (h : History) → length (undo_entries h) ≤ number_of_counts h

-- a lawful history has no more of them than it holds entries
abbrev pub EntriesAreHeld : Type 0
EntriesAreHeld = (h : History) → Lawful h → length (undo_entries h) ≤ entries_held h
