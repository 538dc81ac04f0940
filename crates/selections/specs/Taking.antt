-- The answer to a taken operation.
use Rattle.std.specs.Prelude.{◌==◌, ◌||◌, nat_lt, Bool, if◌then◌else◌, [], ◌∷◌, length, Option, None, Some, Result, Ok, Err}
use Rattle.lamport_clock.specs.Clocks.{last_value}
use Rattle.lamport_clock.specs.declared.stamp.Lamport.{Lamport}
use Rattle.lamport_clock.specs.Stamps.{later}
use Rattle.op_model.specs.Choice.{first_of, when}
use Rattle.op_model.specs.Operations.{last_replica}
use Rattle.selections.specs.declared.selection.SelectionOp.{SelectionOp}
use Rattle.selections.specs.declared.faults.SelTook.{SelTook}
use Rattle.selections.specs.declared.faults.SelTook.TheVariants.{Repeat, Old, Set}
use Rattle.selections.specs.declared.faults.SelFault.{SelFault}
use Rattle.selections.specs.declared.faults.SelFault.TheVariants.{BadStamp, TooMany, Conflict}
use Rattle.selections.specs.Same.{same_operation}
use Rattle.selections.specs.Sets.{SelectionState, keep, kept_for, most_ranges}

-- a stamp or an author that no replica makes
abbrev pub bad_stamp : Lamport → Bool
bad_stamp t = t.value == 0 || t.value == last_value || t.replica == 0 || nat_lt last_replica t.replica

-- the fault that shows in the operation alone
abbrev pub shape_fault : SelectionOp → Option SelFault
shape_fault op = first_of (
    when (bad_stamp op.stamp) BadStamp
    ∷ when (nat_lt most_ranges (length op.ranges)) (TooMany (length op.ranges))
    ∷ [])

-- the answer to an operation beside the one that is kept for its author
abbrev pub answer_beside : Option SelectionOp → SelectionOp → Result SelTook SelFault
answer_beside None op = Ok Set
answer_beside (Some k) op = if later op.stamp k.stamp then Ok Set
    else (if later k.stamp op.stamp then Ok (Old k.stamp)
    else (if same_operation k op then Ok Repeat else Err (Conflict op.stamp)))

-- the fault, or else the answer
abbrev pub unless_fault : Option SelFault → Result SelTook SelFault → Result SelTook SelFault
unless_fault None a = a
unless_fault (Some e) a = Err e

-- the answer to an operation
abbrev pub answer : SelectionState → SelectionOp → Result SelTook SelFault
answer s op = unless_fault (shape_fault op) (answer_beside (kept_for op.stamp.replica s) op)

-- the sets after an operation was answered
abbrev pub after_answer : SelTook → SelectionOp → SelectionState → SelectionState
after_answer Repeat op s = s
after_answer (Old t) op s = s
after_answer Set op s = keep op s
