-- What the calls of a buffer make of what it holds.
use Rattle.std.specs.Prelude.{◌≡◌, true, false, not, ⊤, IsUtf8, ℕ, ◌-◌, Bool, if◌then◌else◌, List, [], ◌∷◌, ◌++◌, length, Option, Some, None, is_some}
use Rattle.std.specs.List.{AllByRecursion, filter}
use Rattle.lamport_clock.specs.declared.stamp.Lamport.{Lamport}
use Rattle.lamport_clock.specs.Stamps.{later, same_stamp}
use Rattle.op_model.specs.declared.operation.Piece.{Piece}
use Rattle.op_model.specs.declared.operation.Operation.{Operation}
use Rattle.op_model.specs.Rules.{Rules, answer_under, pieces_under}
use Rattle.op_model.specs.declared.faults.OpFault.{OpFault}
use Rattle.op_model.specs.Sorted.{insert_by}
use Rattle.op_model.specs.Domains.{IsProper}
use Rattle.op_model.specs.Operations.{stamp_of}
use Rattle.op_model.specs.Histories.{base}
use Rattle.op_model.specs.Made.{local_edit, local_undo, local_edit_fault, local_undo_fault}
use Rattle.op_model.specs.Answers.{Answer}
use Rattle.op_model.specs.Answers.Answer.{Good, Repeat, Waits, Refused}
use Rattle.op_model.specs.Settled.{State, settle, full_fault}

-- a new buffer over a base
abbrev pub new_state : List ℕ → State
new_state t = record { history = base t ∷ []; waiting = []; refused = [] }

abbrev pub with_applied : Operation → State → State
with_applied op s = record { history = s.history ++ op ∷ []; waiting = s.waiting; refused = s.refused }

-- replica r edits: the edit that it makes is applied, unless it meets a fault
abbrev pub edit_step : Rules → ℕ → List Piece → State → State
edit_step l r ps s = if is_some (local_edit_fault l.limits s.history (pieces_under l.endings ps)) then s
    else with_applied (local_edit s.history r (pieces_under l.endings ps)) s

-- replica r undoes
abbrev pub undo_step : Rules → ℕ → List Lamport → State → State
undo_step l r ts s = if is_some (local_undo_fault l.limits s.history ts) then s
    else with_applied (local_undo s.history r ts) s

-- what waits may be applied, refused or dropped
abbrev pub settle_step : Rules → State → State
settle_step l s = let n : State = settle l s.history s.waiting in
    record { history = n.history; waiting = n.waiting; refused = s.refused ++ n.refused }

abbrev pub or_full : Option OpFault → Answer
or_full None = Good
or_full (Some f) = Refused f

-- the limits are asked where nothing else stands against it
abbrev pub ask_limits : Answer → Option OpFault → Answer
ask_limits Good full = or_full full
ask_limits Repeat full = Repeat
ask_limits (Waits r v) full = Waits r v
ask_limits (Refused f) full = Refused f

-- the answer to a taken operation
abbrev pub take_answer : Rules → State → Operation → Answer
take_answer l s op = ask_limits (answer_under l.endings s.history s.waiting op) (full_fault l s.history op)

abbrev pub older : Operation → Operation → Bool
older a b = later (stamp_of b) (stamp_of a)

-- op joins what waits, by stamps
abbrev pub with_deferred : Operation → State → State
with_deferred op s = record { history = s.history; waiting = insert_by older op s.waiting; refused = s.refused }

-- an operation is taken: applied, after which the buffer settles; kept waiting; or nothing changes
abbrev pub take_step : Rules → Operation → State → State
take_step l op s = elim (take_answer l s op) [
  | Good ↦ settle_step l (with_applied op s)
  | Repeat ↦ s
  | Waits r v ↦ with_deferred op s
  | Refused f ↦ s
]

-- w without the operation of the stamp
abbrev pub without : Lamport → List Operation → List Operation
without t w = filter (λ o. not (same_stamp (stamp_of o) t)) w

-- the operation of a stamp is dropped from what waits
abbrev pub forget_step : Lamport → State → State
forget_step t s = record { history = s.history; waiting = without t s.waiting; refused = s.refused }

-- how many operations were applied between two states
abbrev pub growth : State → State → ℕ
growth s n = length n.history - length s.history

-- a call of the buffer
pub data Step : Type 0 where
  Edits : List Piece → Step
  Undoes : List Lamport → Step
  Takes : Operation → Step
  Settles : Step
  Forgets : Lamport → Step

abbrev pub step : Rules → ℕ → Step → State → State
step l r (Edits ps) s = edit_step l r ps s
step l r (Undoes ts) s = undo_step l r ts s
step l r (Takes op) s = take_step l op s
step l r Settles s = settle_step l s
step l r (Forgets t) s = forget_step t s

-- a list of calls of the buffer of replica r, 1 to 1023, one after the other
abbrev pub run : Rules → ℕ → List Step → State → State
run l r [] s = s
run l r (c ∷ cs) s = run l r cs (step l r c s)

-- the operation or texts that are handed to a call are proper
abbrev pub IsProperStep : Step → Type 0
IsProperStep (Edits ps) = AllByRecursion (λ (p : Piece). IsUtf8 p.text) ps
IsProperStep (Undoes ts) = ⊤
IsProperStep (Takes op) = IsProper op
IsProperStep Settles = ⊤
IsProperStep (Forgets t) = ⊤

-- the call forgets an operation
abbrev pub is_forgetting : Step → Bool
is_forgetting (Edits ps) = false
is_forgetting (Undoes ts) = false
is_forgetting (Takes op) = false
is_forgetting Settles = false
is_forgetting (Forgets t) = true

-- none of the calls forgets an operation
abbrev pub NoneForgotten : List Step → Type 0
NoneForgotten cs = AllByRecursion (λ (c : Step). is_forgetting c ≡ false) cs
