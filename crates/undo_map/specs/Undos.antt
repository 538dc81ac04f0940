-- The undo counts of a history.
use Rattle.std.specs.Prelude.{ℕ, ◌+◌, List, [], ◌∷◌, length}
use Rattle.lamport_clock.specs.declared.stamp.Lamport.{Lamport}
use Rattle.op_model.specs.declared.operation.UndoCount.{UndoCount}
use Rattle.op_model.specs.Operations.{stamp_of, counts_of}
use Rattle.op_model.specs.Histories.{History}
use Rattle.undo_map.specs.declared.entry.UndoEntry.{UndoEntry}
use Rattle.undo_map.specs.Counts.{count_of, with_count}

-- w with the counts of the undo `by`, kept one by one
abbrev pub with_counts : Lamport → List UndoCount → List UndoEntry → List UndoEntry
with_counts by [] w = w
with_counts by (c ∷ cs) w = with_counts by cs (with_count (record { edit = c.edit; by = by; count = c.count }) w)

-- w with the counts of the operations of h, kept one by one
abbrev pub with_undos : History → List UndoEntry → List UndoEntry
with_undos [] w = w
with_undos (op ∷ h) w = with_undos h (with_counts (stamp_of op) (counts_of op) w)

-- the counts of all undos of h
abbrev pub undo_entries : History → List UndoEntry
undo_entries h = with_undos h []

-- the next count of t after the counts w
abbrev pub next_of : List UndoEntry → Lamport → UndoCount
next_of w t = record { edit = t; count = count_of w t + 1 }

-- how many counts the undos of h have
abbrev pub number_of_counts : History → ℕ
number_of_counts [] = 0
number_of_counts (op ∷ h) = length (counts_of op) + number_of_counts h
