-- The answer to an operation.
use Rattle.std.specs.Prelude.{ℕ, ◌==◌, nat_lt, nat_le, Bool, true, false, not, ◌&&◌, ◌||◌, List, [], ◌∷◌, ◌++◌, length, Option, option_map, unwrap_or}
use Rattle.std.specs.List.{find, list_any, position}
use Rattle.lamport_clock.specs.Clocks.{last_value}
use Rattle.lamport_clock.specs.Stamps.{same_stamp}
use Rattle.lamport_clock.specs.Versions.{Entries, entry, within, first_unseen}
use Rattle.op_model.specs.declared.operation.Piece.{Piece}
use Rattle.op_model.specs.declared.operation.UndoCount.{UndoCount}
use Rattle.op_model.specs.declared.operation.Operation.{Operation}
use Rattle.op_model.specs.declared.operation.Operation.TheVariants.{Edit, Undo}
use Rattle.op_model.specs.declared.faults.OpFault.{OpFault}
use Rattle.op_model.specs.declared.faults.OpFault.TheVariants.{BadStamp, NoBase, TextLimit, Reversed, Overlap, Conflict, Forked, OpenVersion, PastEnd, InsideChar, NoSuchEdit}
use Rattle.op_model.specs.Choice.{first_of, when}
use Rattle.op_model.specs.Operations.{stamp_of, version_of, pieces_of, counts_of, text_total, text_limit, last_replica}
use Rattle.op_model.specs.Histories.{History, version, seen_history, has_edit}
use Rattle.op_model.specs.Edits.{is_reversed, overlap_from, is_past, is_inside}
use Rattle.op_model.specs.Shown.{full}

pub data Answer : Type 0 where
  Good Repeat : Answer
  Waits : ℕ → ℕ → Answer
  Refused : OpFault → Answer

-- a stamp, an author or a version that no replica makes
abbrev pub bad_stamp : Operation → Bool
bad_stamp op = let t = stamp_of op in
    t.value == 0 || t.value == last_value || t.replica == 0 || nat_lt last_replica t.replica
    || list_any (λ e. nat_lt last_replica e.0) (version_of op) || list_any (λ e. nat_le t.value e.1) (version_of op)

abbrev pub no_base : Operation → Bool
no_base op = not (entry (version_of op) 0 == 1)

-- the fault that shows in the operation alone
abbrev pub shape_fault : Operation → Option OpFault
shape_fault op = first_of (
    when (bad_stamp op) BadStamp
    ∷ when (no_base op) NoBase
    ∷ when (nat_lt text_limit (text_total (pieces_of op))) (TextLimit (text_total (pieces_of op)))
    ∷ option_map Reversed (position is_reversed (pieces_of op))
    ∷ option_map Overlap (overlap_from 0 0 (pieces_of op))
    ∷ [])

-- two lists are equal, element by element
abbrev pub same_list : {A : Type 0} → (A → A → Bool) → List A → List A → Bool
same_list same [] [] = true
same_list same [] (y ∷ ys) = false
same_list same (x ∷ xs) [] = false
same_list same (x ∷ xs) (y ∷ ys) = same x y && same_list same xs ys

-- equal versions have equal entries, as their replicas ascend
abbrev pub same_version : Entries → Entries → Bool
same_version u v = same_list (λ d e. d.0 == e.0 && d.1 == e.1) u v

abbrev pub same_piece : Piece → Piece → Bool
same_piece p q = p.start == q.start && p.end == q.end && same_list (λ a b. a == b) p.text q.text

abbrev pub same_count : UndoCount → UndoCount → Bool
same_count c d = same_stamp c.edit d.edit && c.count == d.count

-- two operations are equal
abbrev pub same_op : Operation → Operation → Bool
same_op (Edit a)
    (Edit b) = same_stamp a.stamp b.stamp && same_version a.version b.version && same_list same_piece a.pieces b.pieces
same_op (Edit a) (Undo b) = false
same_op (Undo a) (Edit b) = false
same_op (Undo a)
    (Undo b) = same_stamp a.stamp b.stamp && same_version a.version b.version && same_list same_count a.counts b.counts

-- h has an operation equal to op
abbrev pub any_equal : History → Operation → Bool
any_equal h op = list_any (λ o. same_op o op) h

-- h has an operation with op's stamp
abbrev pub any_stamp : History → Operation → Bool
any_stamp h op = list_any (λ o. same_stamp (stamp_of o) (stamp_of op)) h

-- the author's operation that is kept, where op has not seen it
abbrev pub fork_fault : History → Operation → Option OpFault
fork_fault h op = let kept = entry (version h) (stamp_of op).replica in
    when (nat_lt (entry (version_of op) (stamp_of op).replica) kept) (Forked kept)

-- the first entry of v that passes that of h: at the least such replica, as the replicas of a version ascend
abbrev pub first_missing : History → Entries → Option (ℕ × ℕ)
first_missing h v = first_unseen (version h) v

-- the operation that the entry names is in h, and its version lies within v
abbrev pub is_entry_closed : History → Entries → ℕ × ℕ → Bool
is_entry_closed h v e = list_any
    (λ o. same_stamp (stamp_of o) (record { value = e.1; replica = e.0 }) && within (version_of o) v) h

-- the first, so the least, replica at which v has an entry that is not closed
abbrev pub open_replica : History → Entries → Option ℕ
open_replica h v = option_map (λ e. e.0) (find (λ e. nat_lt 0 e.1 && not (is_entry_closed h v e)) v)

-- the fault of the pieces against all bytes that the operation's version sees
abbrev pub range_fault : List ℕ → List Piece → Option OpFault
range_fault bytes ps = first_of (
    option_map (λ i. PastEnd i (length bytes)) (position (is_past (length bytes)) ps)
    ∷ option_map InsideChar (position (is_inside bytes) ps)
    ∷ [])

-- the first count of a stamp that is no edit of h
abbrev pub count_fault : History → List UndoCount → Option OpFault
count_fault h cs = option_map (λ c. NoSuchEdit c.edit) (find (λ c. not (has_edit h c.edit)) cs)

-- what can stand against op at h, w waiting, in the order in which it is asked
abbrev pub objections : History → List Operation → Operation → List (Option Answer)
objections h w op =
    option_map Refused (shape_fault op)
    ∷ when (any_equal (h ++ w) op) Repeat
    ∷ when (any_stamp (h ++ w) op) (Refused (Conflict (stamp_of op)))
    ∷ option_map Refused (fork_fault h op)
    ∷ option_map (λ e. Waits e.0 e.1) (first_missing h (version_of op))
    ∷ option_map (λ r. Refused (OpenVersion r)) (open_replica h (version_of op))
    ∷ option_map Refused (range_fault (full (seen_history h (version_of op))) (pieces_of op))
    ∷ option_map Refused (count_fault (seen_history h (version_of op)) (counts_of op))
    ∷ []

-- what stands against op at h, w waiting
abbrev pub objection : History → List Operation → Operation → Option Answer
objection h w op = first_of (objections h w op)

-- the answer to op at h, w waiting
unfoldable pub answer : History → List Operation → Operation → Answer
answer h w op = unwrap_or (objection h w op) Good
