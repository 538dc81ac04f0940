-- For private clauses: the index of the operation with a stamp.
use Rattle.std.specs.Prelude.{◌≡◌, ℕ, ◌<◌, Bool, false, List, length, get_or, Option, Some, None}
use Rattle.sum_tree.specs.Keyed.{Ascending, item_of_key}
use Rattle.lamport_clock.specs.declared.stamp.Lamport.{Lamport}
use Rattle.lamport_clock.specs.Stamps.{stamp_cmp}
use Rattle.op_model.specs.declared.operation.Operation.{Operation}
use Rattle.op_model.specs.Operations.{stamp_of, is_edit}
use Rattle.applied_ops.specs.declared.stamp_entry.StampEntry.{StampEntry}

abbrev pub stamp_at : StampEntry → Lamport
stamp_at p = p.stamp

-- the entry that is kept for a stamp
abbrev pub entry_at : List StampEntry → Lamport → Option StampEntry
entry_at ps t = item_of_key stamp_cmp stamp_at t ps

-- the stamps of the entries ascend, and the stamp of each operation has its index
abbrev pub AreEntriesOf : List StampEntry → List Operation → Type 0
AreEntriesOf ps h = Ascending stamp_cmp stamp_at ps
    × ((i : ℕ) (d : Operation) → i < length h
    → entry_at ps (stamp_of (get_or h i d)) ≡ Some (record { stamp = stamp_of (get_or h i d); index = i }))

-- an operation is found, and it is an edit
abbrev pub is_edit_found : Option Operation → Bool
is_edit_found None = false
is_edit_found (Some o) = is_edit o
