-- What a buffer holds, and what settling makes of it.
use Rattle.std.specs.Prelude.{ℕ, zero, suc, ◌==◌, if◌then◌else◌, List, [], ◌∷◌, ◌++◌, length, Option, Some, None, option_map}
use Rattle.lamport_clock.specs.declared.stamp.Lamport.{Lamport}
use Rattle.lamport_clock.specs.Versions.{within}
use Rattle.op_model.specs.declared.operation.Operation.{Operation}
use Rattle.op_model.specs.Rules.{Rules, answer_under}
use Rattle.op_model.specs.declared.faults.OpFault.{OpFault}
use Rattle.op_model.specs.declared.faults.OpFault.TheVariants.{Full}
use Rattle.op_model.specs.Operations.{stamp_of, version_of, bytes_of, entries_of}
use Rattle.op_model.specs.Histories.{History, version}
use Rattle.op_model.specs.Limited.{excess}
use Rattle.op_model.specs.Answers.{Answer}
use Rattle.op_model.specs.Answers.Answer.{Good, Repeat, Waits, Refused}

-- what a buffer holds: the operations applied, in their order, those that wait, by stamps, and those refused while
-- settling
pub record State : Type 0 where
  pub history : History
  pub waiting : List Operation
  pub refused : List (Lamport × OpFault)

abbrev pub full_fault : Rules → History → Operation → Option OpFault
full_fault l h op = option_map (λ e. Full e.unit e.held e.adds) (excess l.limits h (bytes_of op) (entries_of op))

-- an operation at its turn is appended, dropped or refused
pub data Turn : Type 0 where
  Append Drop Stay : Turn
  Refuse : OpFault → Turn

-- the turn for an answer; the fault of the limits comes after every other
abbrev pub turn_full : Option OpFault → Turn
turn_full None = Append
turn_full (Some f) = Refuse f

abbrev pub turn_of : Answer → Option OpFault → Turn
turn_of Good full = turn_full full
turn_of Repeat full = Drop
turn_of (Waits r v) full = Stay
turn_of (Refused f) full = Refuse f

-- the turn of op at h: it stays where it misses a cause
abbrev pub turn : Rules → History → Operation → Turn
turn l h op = if within (version_of op) (version h) then turn_of (answer_under l.endings h [] op) (full_fault l h op)
    else Stay

abbrev pub with_waiting : Operation → State → State
with_waiting op s = record { history = s.history; waiting = op ∷ s.waiting; refused = s.refused }

abbrev pub with_first_refusal : Lamport × OpFault → State → State
with_first_refusal r s = record { history = s.history; waiting = s.waiting; refused = r ∷ s.refused }

-- one pass over w, which stands by stamps; the refused are those of the pass
unfoldable pub pass : Rules → History → List Operation → State
pass l h [] = record { history = h; waiting = []; refused = [] }
pass l h (op ∷ w) = elim (turn l h op) [
  | Append ↦ pass l (h ++ op ∷ []) w
  | Drop ↦ pass l h w
  | Stay ↦ with_waiting op (pass l h w)
  | Refuse f ↦ with_first_refusal (stamp_of op, f) (pass l h w)
]

-- passes until one applies nothing, at most n
unfoldable pub passes : ℕ → Rules → History → List Operation → State
passes zero l h w = record { history = h; waiting = w; refused = [] }
passes (suc n) l h w = let s : State = pass l h w in
    if length s.history == length h then s
    else (let r : State = passes n l s.history s.waiting in record {
      history = r.history;
      waiting = r.waiting;
      refused = s.refused ++ r.refused;
    })

-- h, w, which stands by stamps, and the refused after settling: passes until one applies nothing. Each pass but the
-- last applies at least one of w, so one more than w has are enough
unfoldable pub settle : Rules → History → List Operation → State
settle l h w = passes (suc (length w)) l h w
