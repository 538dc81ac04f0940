-- What the calls of a replica answer, and what it is after them.
use Rattle.std.specs.Prelude.{◌≡◌, ◌⊎◌, ℕ, List, map, nat_le, ◌&&◌, ◌-◌, ◌^◌, Bool, true, false, Option, Some, None, option_map, Result, Ok, Err, if◌then◌else◌, ⊤}
use Rattle.std.specs.Str.{is_utf8}
use Rattle.lamport_clock.specs.declared.stamp.Lamport.{Lamport}
use Rattle.op_model.specs.declared.operation.Piece.{Piece}
use Rattle.op_model.specs.declared.operation.Operation.{Operation}
use Rattle.op_model.specs.declared.limits.Limits.{Limits as LimitsType}
use Rattle.op_model.specs.declared.endings.Endings.{Endings}
use Rattle.op_model.specs.declared.faults.OpenFault.{OpenFault}
use Rattle.op_model.specs.declared.faults.EditFault.{EditFault}
use Rattle.op_model.specs.declared.faults.UndoFault.{UndoFault}
use Rattle.op_model.specs.Histories.{SameSet}
use Rattle.op_model.specs.Opened.{open_fault}
use Rattle.op_model.specs.Operations.{stamp_of}
use Rattle.op_model.specs.Rules.{text_under}
use Rattle.op_model.specs.Shown.{text}
use Rattle.text_buffer.specs.declared.faults.NewFault.{NewFault}
use Rattle.text_buffer.specs.declared.faults.NewFault.TheVariants as new
use Rattle.text_buffer.specs.Buffer.{BufferState, after_edit, after_undo, base_under, edit_fault, edit_of, new_fault, over_base, undo_fault, undo_of}
use Rattle.c_values.specs.declared.answer.Answer.{Answer}
use Rattle.c_values.specs.declared.answer.Code.TheVariants.{Done, Full, NotUtf8, Open, OutOfRange}
use Rattle.c_values.specs.declared.pieces.Change.{Change}
use Rattle.c_values.specs.declared.stamps.Stamp.{Stamp}
use Rattle.text_buffer.specs.Opening.{opened_with, rules_of}
use Rattle.c_values.specs.Endings.{endings_at}
use Rattle.c_values.specs.Records.{AreRecords, IsNoRecord}
use Rattle.buffer_handles.specs.declared.replica.Replica.{Replica}
use Rattle.c_values.specs.Answers.{IsAnswer, answer, bare, edit_refusal, open_refusal, out_of_memory, stamp_answer, undo_refusal, unit_number}
use Rattle.c_values.specs.Pieces.{pieces_from}
use Rattle.c_values.specs.Stamps.{lamport}

-- ---- opening

-- the replica and the limits are in their ranges
abbrev pub allowed : ℕ → LimitsType → Bool
allowed r l = nat_le 1 r && nat_le r 1023 && nat_le l.bytes (2 ^ 40) && nat_le l.entries (2 ^ 40 - 1)

-- the answer of a fault of a base
abbrev pub new_refusal : NewFault → Answer
new_refusal (new.Full unit held adds) = answer Full (unit_number unit) held adds
new_refusal new.OutOfMemory = out_of_memory

abbrev pub answer_unless : Option NewFault → Answer
answer_unless None = bare Done
answer_unless (Some e) = new_refusal e

abbrev pub open_answer : ℕ → List ℕ → LimitsType → Endings → Answer
open_answer r base l e =
    if allowed r l
    then (if is_utf8 base then answer_unless (new_fault l (text_under e base)) else bare NotUtf8)
    else bare OutOfRange

abbrev pub opened : ℕ → List ℕ → LimitsType → Endings → Replica
opened r base l e = record { buffer = over_base r (base_under e base) l; made = None }

abbrev pub open_answer_at : ℕ → List ℕ → LimitsType → Option Endings → Answer
open_answer_at r base l None = bare OutOfRange
open_answer_at r base l (Some e) = open_answer r base l e

-- the answer of a handle that is to be opened, by the number of the endings
abbrev pub open_call : Option Replica → ℕ → List ℕ → LimitsType → ℕ → Answer
open_call None r base l n = open_answer_at r base l (endings_at n)
open_call (Some x) r base l n = bare Open

-- what is then inside
abbrev pub opened_inside : ℕ → List ℕ → LimitsType → ℕ → Option Replica
opened_inside r base l n = option_map (opened r base l) (endings_at n)

-- ---- opening a saved history

-- the replica that has applied a list of operations
abbrev pub reopened : ℕ → List Operation → LimitsType → Endings → Replica
reopened r ops l e = record { buffer = opened_with r ops l e; made = None }

-- the replica has applied the operations of the records
pub record IsReopened (r : ℕ) (bytes : List ℕ) (l : LimitsType) (e : Endings) (x : Replica) : Type 0 where
  pub ops : List Operation
  pub records : AreRecords bytes ops
  pub good : open_fault (rules_of l e) ops ≡ None
  pub is : x ≡ reopened r ops l e

abbrev pub open_unless : Option OpenFault → Answer
open_unless None = bare Done
open_unless (Some f) = open_refusal f

-- the answer to records, for replicas and limits in their ranges
abbrev pub IsHistoryAnswer : List ℕ → LimitsType → Endings → Answer → Type 0
IsHistoryAnswer bytes l e a = IsNoRecord bytes a
    ⊎ ((ops : List Operation) × AreRecords bytes ops × IsAnswer (open_unless (open_fault (rules_of l e) ops)) a)

abbrev pub IsAnswerIf : Bool → List ℕ → LimitsType → Endings → Answer → Type 0
IsAnswerIf true bytes l e a = IsHistoryAnswer bytes l e a
IsAnswerIf false bytes l e a = a ≡ bare OutOfRange

abbrev pub IsReopenAnswer : ℕ → List ℕ → LimitsType → Endings → Answer → Type 0
IsReopenAnswer r bytes l e a = IsAnswerIf (allowed r l) bytes l e a

abbrev pub IsReopenAnswerAt : ℕ → List ℕ → LimitsType → Option Endings → Answer → Type 0
IsReopenAnswerAt r bytes l None a = a ≡ bare OutOfRange
IsReopenAnswerAt r bytes l (Some e) a = IsReopenAnswer r bytes l e a

-- the answer of a handle in which a saved history is to be opened, by the number of the endings
abbrev pub IsReopenCall : Option Replica → ℕ → List ℕ → LimitsType → ℕ → Answer → Type 0
IsReopenCall None r bytes l n a = IsReopenAnswerAt r bytes l (endings_at n) a
IsReopenCall (Some x) r bytes l n a = a ≡ bare Open

-- what is then inside
abbrev pub IsReopenedBy : ℕ → List ℕ → LimitsType → Endings → Option Replica → Type 0
IsReopenedBy r bytes l e None = ⊥
IsReopenedBy r bytes l e (Some x) = IsReopened r bytes l e x

abbrev pub IsReopenedUnder : ℕ → List ℕ → LimitsType → Option Endings → Option Replica → Type 0
IsReopenedUnder r bytes l None x = ⊥
IsReopenedUnder r bytes l (Some e) x = IsReopenedBy r bytes l e x

abbrev pub IsReopenedInside : ℕ → List ℕ → LimitsType → ℕ → Option Replica → Type 0
IsReopenedInside r bytes l n x = IsReopenedUnder r bytes l (endings_at n) x

-- ---- edits

abbrev pub edit_unless : Option EditFault → Operation → Answer
edit_unless None op = stamp_answer Done (stamp_of op)
edit_unless (Some e) op = edit_refusal e

abbrev pub edit_outcome : BufferState → List Piece → Answer
edit_outcome b ps = edit_unless (edit_fault b ps) (edit_of b ps)

abbrev pub with_edit : Replica → List Piece → Replica
with_edit r ps = record { buffer = after_edit r.buffer ps; made = Some (edit_of r.buffer ps) }

-- the answer to an edit with pieces, or why they are none
abbrev pub edit_answer_of : BufferState → Result (List Piece) Answer → Answer
edit_answer_of b (Ok ps) = edit_outcome b ps
edit_answer_of b (Err a) = a

abbrev pub edited_by : Replica → Result (List Piece) Answer → Replica
edited_by r (Ok ps) = with_edit r ps
edited_by r (Err a) = r

abbrev pub edit_answer : Replica → List Change → List ℕ → Answer
edit_answer r cs texts = edit_answer_of r.buffer (pieces_from cs texts)

abbrev pub edited : Replica → List Change → List ℕ → Replica
edited r cs texts = edited_by r (pieces_from cs texts)

-- ---- undos

abbrev pub undo_unless : Option UndoFault → Operation → Answer
undo_unless None op = stamp_answer Done (stamp_of op)
undo_unless (Some e) op = undo_refusal e

abbrev pub undo_outcome : BufferState → List Lamport → Answer
undo_outcome b ts = undo_unless (undo_fault b ts) (undo_of b ts)

abbrev pub with_undo : Replica → List Lamport → Replica
with_undo r ts = record { buffer = after_undo r.buffer ts; made = Some (undo_of r.buffer ts) }

abbrev pub undo_answer : Replica → List Stamp → Answer
undo_answer r ss = undo_outcome r.buffer (map lamport ss)

abbrev pub undone : Replica → List Stamp → Replica
undone r ss = with_undo r (map lamport ss)

-- ---- snapshots

-- what a buffer that a handle holds has applied
abbrev pub history_inside : Option Replica → Option (List Operation)
history_inside None = None
history_inside (Some r) = Some r.buffer.history

-- the answer of a handle that is to hold a snapshot
abbrev pub snapshot_answer : Option (List Operation) → Answer
snapshot_answer None = bare Done
snapshot_answer (Some h) = bare Open

-- ---- handles with the same operations

-- two replicas with the same operations, in whatever order, have the same text
abbrev pub Agree : Replica → Replica → Type 0
Agree r s = SameSet r.buffer.history s.buffer.history → text r.buffer.history ≡ text s.buffer.history

-- the same of handles, by what is inside
abbrev pub AgreeInside : Option Replica → Option Replica → Type 0
AgreeInside None s = ⊤
AgreeInside (Some r) None = ⊤
AgreeInside (Some r) (Some s) = Agree r s
