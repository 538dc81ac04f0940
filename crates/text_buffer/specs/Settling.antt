-- Settling by turns and passes.
use Rattle.std.specs.Prelude.{◌≡◌, ◌⊎◌, ℕ, [], ◌∷◌, ◌++◌, Option, None, Some}
use Rattle.lamport_clock.specs.declared.stamp.Lamport.{Lamport}
use Rattle.op_model.specs.declared.operation.Operation.{Operation}
use Rattle.op_model.specs.Rules.{Rules, answer_under}
use Rattle.op_model.specs.Operations.{stamp_of}
use Rattle.op_model.specs.Histories.{version}
use Rattle.op_model.specs.declared.faults.OpFault.{OpFault}
use Rattle.op_model.specs.Answers.{Answer}
use Rattle.op_model.specs.Answers.Answer.{Good, Repeat, Waits, Refused}
use Rattle.op_model.specs.Settled.{State, Turn, turn, pass, full_fault}
use Rattle.op_model.specs.Settled.Turn.{Append, Drop, Stay, Refuse}
use Rattle.op_model.specs.Stopped.{stopped_pass}
use Rattle.op_model.specs.Steps.{ask_limits, without}
use Rattle.deferred_ops.specs.Deferred.{least_ready}
use Rattle.text_buffer.specs.Buffer.{BufferState, after_apply, rules, state, with_state}

-- what a turn of op makes
abbrev pub after_turn : Turn → Operation → State → State
after_turn Append op s = record {
  history = s.history ++ op ∷ [];
  waiting = without (stamp_of op) s.waiting;
  refused = s.refused;
}
after_turn Drop op s = record { history = s.history; waiting = without (stamp_of op) s.waiting; refused = s.refused }
after_turn Stay op s = s
after_turn (Refuse f) op s = record {
  history = s.history;
  waiting = without (stamp_of op) s.waiting;
  refused = s.refused ++ (stamp_of op, f) ∷ [];
}

-- op has its turn
abbrev pub turn_step : Rules → Operation → State → State
turn_step l op s = after_turn (turn l s.history op) op s

-- one pass
abbrev pub pass_step : Rules → State → State
pass_step l s =
    let p : State = pass l s.history s.waiting in
    record { history = p.history; waiting = p.waiting; refused = s.refused ++ p.refused }

-- the least operation past a stamp that misses no cause
abbrev pub next_ready : Option Lamport → BufferState → Option Operation
next_ready after b = least_ready after (version b.history) b.waiting

-- the buffer after the turn of an operation, if there is one
abbrev pub after_next_turn : Option Operation → BufferState → BufferState
after_next_turn None b = b
after_next_turn (Some op) b = with_state (turn_step (rules b) op (state b)) b

-- the answer to an operation at its turn, the limits asked last
abbrev pub turn_answer : BufferState → Operation → Answer
turn_answer b op = ask_limits (answer_under b.endings b.history [] op) (full_fault (rules b) b.history op)

abbrev pub with_refusal : Lamport × OpFault → BufferState → BufferState
with_refusal r b = record b { refused = b.refused ++ r ∷ [] }

abbrev pub without_waiting : Lamport → BufferState → BufferState
without_waiting t b = record b { waiting = without t b.waiting }

-- the buffer after an answer at a turn, before the operation leaves
abbrev pub after_answer : Answer → Operation → BufferState → BufferState
after_answer Good op b = after_apply b op
after_answer Repeat op b = b
after_answer (Waits r v) op b = b
after_answer (Refused f) op b = with_refusal (stamp_of op, f) b

-- the buffer after one pass
abbrev pub after_pass : BufferState → BufferState
after_pass b = with_state (pass_step (rules b) (state b)) b

-- a pass was stopped: some operations, the least stamps first, had their turns, and the others wait on
abbrev pub IsStoppedPass : BufferState → BufferState → Type 0
IsStoppedPass b n = (k : ℕ) × (n ≡ with_state (stopped_pass k (rules b) (state b)) b)

-- settling was stopped, in its first pass or in its second
abbrev pub IsStoppedSettling : BufferState → BufferState → Type 0
IsStoppedSettling b n = IsStoppedPass b n ⊎ IsStoppedPass (after_pass b) n
