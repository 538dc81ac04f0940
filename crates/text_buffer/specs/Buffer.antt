-- What contracts see of a buffer, the faults that edits and undos meet, what they make, and the answer to a taken operation.
use Rattle.std.specs.Prelude.{◌≡◌, ℕ, ◌≤◌, ◌-◌, ◌^◌, Bool, true, false, List, [], ◌∷◌, ◌++◌, length, nat_lt, Option, None, Some}
use Rattle.std.specs.List.{AllByRecursion}
use Rattle.op_model.specs.declared.operation.Piece.{Piece}
use Rattle.op_model.specs.declared.operation.Operation.{Operation}
use Rattle.op_model.specs.declared.limits.Limits.{Limits as LimitsType}
use Rattle.op_model.specs.Rules.{Rules, KeepsRule, pieces_under, text_under}
use Rattle.op_model.specs.declared.endings.Endings.{Endings}
use Rattle.op_model.specs.declared.faults.EditFault.{EditFault}
use Rattle.op_model.specs.declared.faults.UndoFault.{UndoFault}
use Rattle.op_model.specs.declared.faults.OpFault.{OpFault}
use Rattle.op_model.specs.declared.faults.Unit.TheVariants.{Bytes}
use Rattle.lamport_clock.specs.declared.stamp.Lamport.{Lamport}
use Rattle.lamport_clock.specs.Versions.{within}
use Rattle.op_model.specs.Sorted.{Ascending}
use Rattle.op_model.specs.Choice.{when}
use Rattle.op_model.specs.Operations.{version_of, last_replica}
use Rattle.op_model.specs.Histories.{base, version, bytes_held, entries_held}
use Rattle.op_model.specs.Answers.{Answer}
use Rattle.op_model.specs.Answers.Answer.{Good, Repeat, Waits, Refused}
use Rattle.op_model.specs.Settled.{State}
use Rattle.op_model.specs.Steps.{older, take_answer, take_step, settle_step, growth, Step, step, run}
use Rattle.op_model.specs.Made.{local_edit as made_at, local_undo as made_undo_at, local_edit_fault, local_undo_fault}
use Rattle.text_buffer.specs.declared.faults.NewFault.{NewFault}
use Rattle.text_buffer.specs.declared.faults.NewFault.TheVariants.{Full}
use Rattle.text_buffer.specs.declared.outcomes.Took.{Took}
use Rattle.text_buffer.specs.declared.outcomes.Took.TheVariants as took
use Rattle.text_buffer.specs.Document.{IsBufferHistory}

-- the applied operations in the order of application, the base first; those that wait, the least stamp first; the stamps of those
-- that were refused while settling, each with its fault; the author of its edits and undos; its limits; what it does with line
-- endings
pub record BufferState : Type 0 where
  pub history : List Operation
  pub waiting : List Operation
  pub refused : List (Lamport × OpFault)
  pub replica : ℕ
  pub limits : LimitsType
  pub endings : Endings

-- the rules that a buffer goes by
abbrev pub rules : BufferState → Rules
rules b = record { limits = b.limits; endings = b.endings }

-- a base text as it entered, with what the buffers over it do with line endings
pub record BaseText : Type 0 where
  pub text : List ℕ
  pub endings : Endings

-- a text as a base
abbrev pub base_under : Endings → List ℕ → BaseText
base_under e t = record { text = text_under e t; endings = e }

-- the buffer over a base
abbrev pub over_base : ℕ → BaseText → LimitsType → BufferState
over_base r t l = record {
  history = base t.text ∷ [];
  waiting = [];
  refused = [];
  replica = r;
  limits = l;
  endings = t.endings;
}

-- the fault of a base of n bytes where no more than `most` may be held
abbrev pub length_fault : ℕ → ℕ → Option NewFault
length_fault most n = when (nat_lt most n) (Full Bytes 0 n)

-- the fault that a base meets, by its text as it enters
abbrev pub new_fault : LimitsType → List ℕ → Option NewFault
new_fault l t = length_fault l.bytes (length t)

-- the fault of a text that is longer than the greatest limit
abbrev pub base_fault : List ℕ → Option NewFault
base_fault t = length_fault (2 ^ 40) (length t)

-- the fault that an edit meets, by its texts as they enter
abbrev pub edit_fault : BufferState → List Piece → Option EditFault
edit_fault b ps = local_edit_fault b.limits b.history (pieces_under b.endings ps)

-- the operation of an edit
abbrev pub edit_of : BufferState → List Piece → Operation
edit_of b ps = made_at b.history b.replica (pieces_under b.endings ps)

-- the buffer after an edit
abbrev pub after_edit : BufferState → List Piece → BufferState
after_edit b ps = record b { history = b.history ++ edit_of b ps ∷ [] }

-- the fault that an undo meets
abbrev pub undo_fault : BufferState → List Lamport → Option UndoFault
undo_fault b ts = local_undo_fault b.limits b.history ts

-- the operation of an undo
abbrev pub undo_of : BufferState → List Lamport → Operation
undo_of b ts = made_undo_at b.history b.replica ts

-- the buffer after an undo
abbrev pub after_undo : BufferState → List Lamport → BufferState
after_undo b ts = record b { history = b.history ++ undo_of b ts ∷ [] }

-- the buffer with one more operation applied
abbrev pub after_apply : BufferState → Operation → BufferState
after_apply b op = record b { history = b.history ++ op ∷ [] }

-- what the calls of a buffer work on
abbrev pub state : BufferState → State
state b = record { history = b.history; waiting = b.waiting; refused = b.refused }

abbrev pub with_state : State → BufferState → BufferState
with_state s b = record b { history = s.history; waiting = s.waiting; refused = s.refused }

-- the buffer after the call of a step
abbrev pub after_call : Step → BufferState → BufferState
after_call c b = with_state (step (rules b) b.replica c (state b)) b

-- the buffer after a list of calls
abbrev pub after_calls : List Step → BufferState → BufferState
after_calls cs b = with_state (run (rules b) b.replica cs (state b)) b

-- the answer to a taken operation
abbrev pub answer_to : BufferState → Operation → Answer
answer_to b op = take_answer (rules b) (state b) op

-- the buffer after an operation is taken
abbrev pub after_take : BufferState → Operation → BufferState
after_take b op = with_state (take_step (rules b) op (state b)) b

-- the buffer after it settles
abbrev pub after_settle : BufferState → BufferState
after_settle b = with_state (settle_step (rules b) (state b)) b

-- how many operations were applied from one buffer to the next
abbrev pub number_applied : BufferState → BufferState → ℕ
number_applied b n = growth (state b) (state n)

-- what `take` returns for an answer that is no refusal, where n operations were applied
abbrev pub took_of : ℕ → Answer → Option Took
took_of n Good = Some (took.Applied n)
took_of n Repeat = Some took.Repeat
took_of n (Waits r v) = Some (took.Waits r v)
took_of n (Refused f) = None

-- the operation is taken in: it is applied, or waits
abbrev pub is_taken_in : Answer → Bool
is_taken_in Good = true
is_taken_in Repeat = false
is_taken_in (Waits r v) = true
is_taken_in (Refused f) = false

-- each operation that waits misses a cause
abbrev pub AllMiss : BufferState → Type 0
AllMiss b = AllByRecursion (λ (op : Operation). within (version_of op) (version b.history) ≡ false) b.waiting

-- what is true of every buffer
pub record IsBuffer (b : BufferState) : Type 0 where
  pub history : IsBufferHistory b.history
  pub rule : KeepsRule b.endings b.history
  pub waiting_ascending : Ascending older b.waiting
  pub least_replica : 1 ≤ b.replica
  pub greatest_replica : b.replica ≤ last_replica
  pub most_bytes : b.limits.bytes ≤ 2 ^ 40
  pub most_entries : b.limits.entries ≤ 2 ^ 40 - 1
  pub bytes : bytes_held b.history ≤ b.limits.bytes
  pub entries : entries_held b.history ≤ b.limits.entries
