-- Undo counts: a list of entries, ascending by edit, then by undo.
use Rattle.std.specs.Prelude.{ℕ, max, ◌%◌, ◌==◌, Bool, true, if◌then◌else◌, ◌&&◌, List, [], ◌∷◌, Option, Some, None}
use Rattle.std.specs.Ordering.{ordering_then, is_lt, is_eq}
use Rattle.std.specs.declared.cmp.Ordering.{Ordering}
use Rattle.sum_tree.specs.Keyed.{Ascending, insert_item}
use Rattle.lamport_clock.specs.declared.stamp.Lamport.{Lamport}
use Rattle.lamport_clock.specs.Stamps.{same_stamp, stamp_cmp}
use Rattle.lamport_clock.specs.Versions.{Entries, sees}
use Rattle.undo_map.specs.declared.entry.UndoKey.{UndoKey}
use Rattle.undo_map.specs.declared.entry.UndoEntry.{UndoEntry}

abbrev pub key_of : UndoEntry → UndoKey
key_of e = record { edit = e.edit; by = e.by }

-- the greatest count of the entries that pass, 0 where none does
abbrev pub greatest : (UndoEntry → Bool) → List UndoEntry → ℕ
greatest passes [] = 0
greatest passes (e ∷ w) = if passes e then max e.count (greatest passes w) else greatest passes w

-- the greatest count that an undo gives the edit t
abbrev pub count_of : List UndoEntry → Lamport → ℕ
count_of w t = greatest (λ e. same_stamp e.edit t) w

-- the greatest count that an undo which v sees gives the edit t
abbrev pub count_seen : List UndoEntry → Lamport → Entries → ℕ
count_seen w t v = greatest (λ e. same_stamp e.edit t && sees v e.by) w

abbrev pub is_odd : ℕ → Bool
is_odd n = n % 2 == 1

-- by edit, then by undo
abbrev pub key_cmp : UndoKey → UndoKey → Ordering
key_cmp a b = ordering_then (stamp_cmp a.edit b.edit) (stamp_cmp a.by b.by)

-- the keys ascend
abbrev pub IsAscending : List UndoEntry → Type 0
IsAscending w = Ascending key_cmp key_of w

-- the count that the entry's undo has given its edit so far
abbrev pub count_at_key : UndoKey → List UndoEntry → ℕ
count_at_key k w = greatest (λ e. is_eq (key_cmp (key_of e) k)) w

-- w with an entry, which keeps the greater of two counts that one undo gives an edit
abbrev pub with_count : UndoEntry → List UndoEntry → List UndoEntry
with_count e w = insert_item key_cmp key_of (record e { count = max e.count (count_at_key (key_of e) w) }) w

-- ---- for private clauses

-- the entry's edit is earlier than t
abbrev pub is_earlier : Lamport → UndoEntry → Bool
is_earlier t e = is_lt (stamp_cmp e.edit t)

-- the undo is seen by the version, where one is given
abbrev pub is_seen : Option Entries → Lamport → Bool
is_seen None by = true
is_seen (Some v) by = sees v by

-- the entry counts for the edit t at the version, where one is given
abbrev pub counts_for : Lamport → Option Entries → UndoEntry → Bool
counts_for t None e = same_stamp e.edit t
counts_for t (Some v) e = same_stamp e.edit t && sees v e.by
