-- A list of operations with which a buffer is opened.
use Rattle.std.specs.Prelude.{ℕ, suc, ◌≤◌, Bool, if◌then◌else◌, List, [], ◌∷◌, ◌++◌, Option, Some, None, option_map}
use Rattle.op_model.specs.declared.operation.Operation.{Operation}
use Rattle.op_model.specs.declared.faults.OpFault.TheVariants.{Full}
use Rattle.op_model.specs.declared.faults.OpenFault.{OpenFault}
use Rattle.op_model.specs.declared.faults.OpenFault.TheVariants as opening
use Rattle.op_model.specs.Choice.{first_of}
use Rattle.op_model.specs.Operations.{pieces_of, bytes_of}
use Rattle.op_model.specs.Histories.{History, base, bytes_held, entries_held}
use Rattle.op_model.specs.Limited.{excess}
use Rattle.op_model.specs.Shown.{texts}
use Rattle.op_model.specs.Answers.{Answer, same_op}
use Rattle.op_model.specs.Answers.Answer.{Good, Repeat, Waits, Refused}
use Rattle.op_model.specs.Lawful.{Lawful}
use Rattle.op_model.specs.Rules.{Rules, KeepsRule, rule_fault}
use Rattle.op_model.specs.Settled.{State}
use Rattle.op_model.specs.Steps.{take_answer}

-- the operation is the base of its own text
abbrev pub is_base : Operation → Bool
is_base op = same_op op (base (texts (pieces_of op)))

-- h is applied, and nothing waits
abbrev pub state_of : History → State
state_of h = record { history = h; waiting = []; refused = [] }

-- the fault of operation i for an answer
abbrev pub fault_at : ℕ → Answer → Option OpenFault
fault_at i Good = None
fault_at i Repeat = Some (opening.Repeat i)
fault_at i (Waits r v) = Some (opening.Early i r v)
fault_at i (Refused f) = Some (opening.Op i f)

-- the first fault of operations, counted from i, after h: each is judged after those before it, with nothing waiting
abbrev pub fault_from : Rules → ℕ → History → List Operation → Option OpenFault
fault_from l i h [] = None
fault_from l i h (op ∷ ops) = first_of (
    fault_at i (take_answer l (state_of h) op)
    ∷ fault_from l (suc i) (h ++ op ∷ []) ops
    ∷ [])

-- the fault of a base: that of the rule, then that of the limits
abbrev pub base_open_fault : Rules → Operation → Option OpenFault
base_open_fault l op = first_of (
    option_map (opening.Op 0) (rule_fault l.endings op)
    ∷ option_map (λ e. opening.Op 0 (Full e.unit e.held e.adds)) (excess l.limits [] (bytes_of op) 0)
    ∷ [])

-- the first fault of a list
abbrev pub open_fault : Rules → List Operation → Option OpenFault
open_fault l [] = Some opening.NotBase
open_fault l (op ∷ ops) = if is_base op then first_of (base_open_fault l op ∷ fault_from l 1 (op ∷ []) ops ∷ [])
    else Some opening.NotBase

-- a buffer under the rules may have applied h
pub record MayHaveApplied (l : Rules) (h : History) : Type 0 where
  pub lawful : Lawful h
  pub rule : KeepsRule l.endings h
  pub bytes : bytes_held h ≤ l.limits.bytes
  pub entries : entries_held h ≤ l.limits.entries
