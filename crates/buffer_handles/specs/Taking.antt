-- Operations that a buffer takes, one or many.
use Rattle.std.specs.Prelude.{◌≡◌, ◌⊎◌, ℕ, length, map, List, [], ◌∷◌, Option, None, Some}
use Rattle.op_model.specs.declared.operation.Operation.{Operation}
use Rattle.op_model.specs.declared.faults.OpFault.{OpFault}
use Rattle.op_model.specs.Answers.{Answer}
use Rattle.op_model.specs.Answers.Answer.{Good, Repeat, Waits, Refused}
use Rattle.op_model.specs.Steps.Step.{Settles, Takes}
use Rattle.text_buffer.specs.Buffer.{BufferState, after_calls, after_settle, after_take, answer_to}
use Rattle.text_buffer.specs.Calls.{IsStopped, Reaches}
use Rattle.c_values.specs.declared.answer.Answer.{Answer as AnswerType}
use Rattle.c_values.specs.declared.answer.Code.TheVariants.{Done}
use Rattle.c_values.specs.Answers.{answer, bare, op_refusal, out_of_memory}
use Rattle.c_values.specs.declared.answer.Code.TheVariants.{Closed}
use Rattle.buffer_handles.specs.declared.replica.Replica.{Replica}
use Rattle.c_values.specs.Records.{AreRecords, IsNoRecord}

-- the fault of a refusal
abbrev pub fault_of : Answer → Option OpFault
fault_of Good = None
fault_of Repeat = None
fault_of (Waits r v) = None
fault_of (Refused e) = Some e

-- the first fault, or else a later one
abbrev pub or_later : Option OpFault → Option OpFault → Option OpFault
or_later None later = later
or_later (Some e) later = Some e

-- the first fault among operations that are taken one after the other
abbrev pub first_fault : BufferState → List Operation → Option OpFault
first_fault b [] = None
first_fault b (op ∷ ops) = or_later (fault_of (answer_to b op)) (first_fault (after_take b op) ops)

-- what a buffer holds: how many operations are applied, and how many wait
abbrev pub counts_answer : BufferState → AnswerType
counts_answer b = answer Done (length b.history) (length b.waiting) 0

-- the answer where operations were taken, by the first fault among them
abbrev pub taking_answer : BufferState → Option OpFault → AnswerType
taking_answer n None = counts_answer n
taking_answer n (Some e) = op_refusal e

-- operations were taken, all of them, or a part of them where an allocation failed
abbrev pub AreTaken : List Operation → BufferState → BufferState → AnswerType → Type 0
AreTaken ops b n a =
    ((n ≡ after_calls (map Takes ops) b) × (a ≡ taking_answer n (first_fault b ops)))
    ⊎ ((a ≡ out_of_memory) × Reaches b n)

-- the operations of the records were taken; or the bytes are no records, and the buffer is as before
abbrev pub IsTaken : List ℕ → BufferState → BufferState → AnswerType → Type 0
IsTaken bytes b n a =
    ((ops : List Operation) × AreRecords bytes ops × AreTaken ops b n a)
    ⊎ (IsNoRecord bytes a × (n ≡ b))

-- the same of a handle, by what is inside before and after
abbrev pub TakesInside : List ℕ → Option Replica → Option Replica → AnswerType → Type 0
TakesInside bytes None n a = (a ≡ bare Closed) × (n ≡ None)
TakesInside bytes (Some r) None a = ⊥
TakesInside bytes (Some r) (Some n) a = IsTaken bytes r.buffer n.buffer a × (n.made ≡ r.made)

-- ---- settling

abbrev pub IsSettled : BufferState → BufferState → AnswerType → Type 0
IsSettled b n a =
    ((n ≡ after_settle b) × (a ≡ counts_answer n)) ⊎ ((a ≡ out_of_memory) × IsStopped Settles b n)

abbrev pub SettlesInside : Option Replica → Option Replica → AnswerType → Type 0
SettlesInside None n a = (a ≡ bare Closed) × (n ≡ None)
SettlesInside (Some r) None a = ⊥
SettlesInside (Some r) (Some n) a = IsSettled r.buffer n.buffer a × (n.made ≡ r.made)
