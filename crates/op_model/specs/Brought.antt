-- What a list of calls of a buffer makes and takes.
use Rattle.std.specs.Prelude.{⊤, ◌≡◌, ℕ, if◌then◌else◌, List, [], ◌∷◌, ◌++◌, Option, Some, None, is_some, option_to_list}
use Rattle.lamport_clock.specs.declared.stamp.Lamport.{Lamport}
use Rattle.op_model.specs.declared.operation.Operation.{Operation}
use Rattle.op_model.specs.Rules.{Rules, pieces_under}
use Rattle.op_model.specs.declared.faults.Unit.{Unit as LimitUnit}
use Rattle.op_model.specs.declared.faults.OpFault.TheVariants.{Full}
use Rattle.op_model.specs.Sorted.{Member}
use Rattle.op_model.specs.Answers.Answer.{Refused}
use Rattle.op_model.specs.Made.{local_edit, local_undo, local_edit_fault, local_undo_fault}
use Rattle.op_model.specs.Settled.{State}
use Rattle.op_model.specs.Steps.{Step, step, settle_step, take_answer}
use Rattle.op_model.specs.Steps.Step.{Edits, Undoes, Takes, Settles, Forgets}

-- the operation that a call of replica r makes or takes at s, if it makes or takes one
abbrev pub operation_of_call : Rules → ℕ → Step → State → Option Operation
operation_of_call l r (Edits ps) s =
    if is_some (local_edit_fault l.limits s.history (pieces_under l.endings ps)) then None
    else Some (local_edit s.history r (pieces_under l.endings ps))
operation_of_call l r (Undoes ts) s = if is_some (local_undo_fault l.limits s.history ts) then None
    else Some (local_undo s.history r ts)
operation_of_call l r (Takes op) s = Some op
operation_of_call l r Settles s = None
operation_of_call l r (Forgets t) s = None

-- all that a list of calls makes and takes
abbrev pub operations_of_calls : Rules → ℕ → List Step → State → List Operation
operations_of_calls l r [] s = []
operations_of_calls l r (c ∷ cs) s = option_to_list (operation_of_call l r c s)
    ++ operations_of_calls l r cs (step l r c s)

-- the limits are not why an operation is refused that a call takes at s; an edit or undo that they refuse is not made
abbrev pub TakesNoFull : Rules → Step → State → Type 0
TakesNoFull l (Edits ps) s = ⊤
TakesNoFull l (Undoes ts) s = ⊤
TakesNoFull l (Takes op) s = (u : LimitUnit) → (n m : ℕ) → take_answer l s op ≡ Refused (Full u n m) → ⊥
TakesNoFull l Settles s = ⊤
TakesNoFull l (Forgets t) s = ⊤

-- nor of one that a list of calls takes from s on, nor of one that was refused while settling, in a last settling after
-- them either
abbrev pub NoFull : Rules → ℕ → List Step → State → Type 0
NoFull l r [] s = (u : LimitUnit) → (n m : ℕ) → (t : Lamport) → Member (t, Full u n m) (settle_step l s).refused → ⊥
NoFull l r (c ∷ cs) s = TakesNoFull l c s × NoFull l r cs (step l r c s)
