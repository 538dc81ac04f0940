-- A buffer in the middle of a pass.
use Rattle.std.proofs.Common.{◌≡◌, ◌<◌, Bool, cond, List, [], length, refl, sym, ◌∙◌, ap, subst, Option, None, Some}
use Rattle.std.specs.Prelude.{option_map}
use Rattle.lamport_clock.specs.declared.stamp.Lamport.{Lamport}
use Rattle.op_model.specs.declared.operation.Operation.{Operation}
use Rattle.op_model.specs.Rules.{Rules, answer_under}
use Rattle.op_model.specs.declared.faults.OpFault.{OpFault}
use Rattle.op_model.specs.Sorted.{Ascending}
use Rattle.op_model.specs.Operations.{stamp_of}
use Rattle.op_model.specs.Answers.{Answer}
use Rattle.op_model.specs.Answers.Answer.{Good, Repeat, Waits, Refused}
use Rattle.op_model.specs.Settled.{State, Turn, turn, turn_of, full_fault}
use Rattle.op_model.specs.Settled.Turn.{Append, Drop, Stay, Refuse}
use Rattle.op_model.specs.Stopped.{stopped_pass}
use Rattle.op_model.specs.Steps.{older, ask_limits, without}
use Rattle.op_model.proofs.settling.Passes.{not_stay}
use Rattle.op_model.proofs.settling.Waiting.{filter_ascends}
use Rattle.deferred_ops.proofs.Ready.{ready_within}
use Rattle.text_buffer.specs.Buffer.{BufferState, IsBuffer, rules, state, with_state}
use Rattle.text_buffer.specs.BufferInside.{state_of, IsBufferInside}
use Rattle.text_buffer.specs.declared.buffer.Buffer.TheInside.{Inside}
use Rattle.text_buffer.specs.Settling.{after_turn, turn_step, pass_step, next_ready, after_next_turn, turn_answer, after_answer, without_waiting, after_pass, IsStoppedPass}
use Rattle.text_buffer.proofs.Turns.{IsAt, at_start, at_end, at_turn, at_until, fewer}

-- ---- a turn

abbrev pub turn_for : Answer → Turn
turn_for Good = Append
turn_for Repeat = Drop
turn_for (Waits r v) = Stay
turn_for (Refused f) = Refuse f

by_answer : (a : Answer) (f : Option OpFault) → turn_of a f ≡ turn_for (ask_limits a f)
by_answer Good None = refl
by_answer Good (Some x) = refl
by_answer Repeat f = refl
by_answer (Waits r v) f = refl
by_answer (Refused x) f = refl

-- the turn of what is ready follows from the answer, the limits asked last
pub turn_is : (after : Option Lamport) (b : BufferState) (op : Operation) (a : Answer) → next_ready after b ≡ Some op → a ≡ turn_answer b op → turn (rules b) b.history op ≡ turn_for a
turn_is after b op a e q =
    let w = ready_within after b.history b.waiting op e in
    ap (λ (x : Bool). cond x (turn_of (answer_under b.endings b.history [] op) (full_fault (rules b) b.history op)) Stay) w
    ∙ by_answer (answer_under b.endings b.history [] op) (full_fault (rules b) b.history op) ∙ ap turn_for (sym q)

turn_makes : (after : Option Lamport) (b : BufferState) (op : Operation) (t : Turn) → next_ready after b ≡ Some op → turn (rules b) b.history op ≡ t → with_state (after_turn t op (state b)) b ≡ after_next_turn (next_ready after b) b
turn_makes after b op t e q = ap (λ (u : Turn). with_state (after_turn u op (state b)) b) (sym q) ∙ ap (λ (o : Option Operation). after_next_turn o b) (sym e)

pub turn_done : (after : Option Lamport) (b m n : BufferState) (op : Operation) (t : Lamport) → next_ready after b ≡ Some op → t ≡ stamp_of op → m ≡ after_answer (turn_answer b op) op b → n ≡ without_waiting t m → n ≡ after_next_turn (next_ready after b) b
turn_done after b m n op t e s x y = y ∙ ap (λ (u : Lamport). without_waiting u m) s ∙ ap (without_waiting (stamp_of op)) x ∙ go (turn_answer b op) refl
  where
    go : (a : Answer) → turn_answer b op ≡ a → without_waiting (stamp_of op) (after_answer a op b) ≡ after_next_turn (next_ready after b) b
    go Good q = turn_makes after b op Append e (turn_is after b op Good e (sym q))
    go Repeat q = turn_makes after b op Drop e (turn_is after b op Repeat e (sym q))
    go (Waits r v) q = absurd (not_stay (rules b) b.history op (ready_within after b.history b.waiting op e) (turn_is after b op (Waits r v) e (sym q)))
    go (Refused f) q = turn_makes after b op (Refuse f) e (turn_is after b op (Refused f) e (sym q))

-- an operation leaves
IsBuffer-without : (b : BufferState) (t : Lamport) → IsBuffer b → IsBuffer (record b { waiting = without t b.waiting })
IsBuffer-without b t k = record {
  history = k.history;
  rule = k.rule;
  waiting_ascending = filter_ascends _ b.waiting k.waiting_ascending;
  least_replica = k.least_replica;
  greatest_replica = k.greatest_replica;
  most_bytes = k.most_bytes;
  most_entries = k.most_entries;
  bytes = k.bytes;
  entries = k.entries;
}

-- the fields of a buffer from which an operation leaves
pub IsBufferInside-without : (i : Inside) (t : Lamport) (w : List Operation) → IsBufferInside i → w ≡ without t i.waiting → IsBufferInside (record i { waiting = w })
IsBufferInside-without i t w k e = subst (λ (x : List Operation). IsBuffer (record (state_of i) { waiting = x })) (sym e) (IsBuffer-without (state_of i) t k)

-- ---- a pass

pub record OnWay (b : BufferState) (after : Option Lamport) (n : BufferState) : Type 0 where
  pub at : IsAt (rules b) (state b) after (state n)
  pub replica : n.replica ≡ b.replica
  pub same_rules : rules n ≡ rules b

pub on_start : (b : BufferState) → OnWay b None b
on_start b = record { at = at_start (rules b) (state b); replica = refl; same_rules = refl }

same_buffer : (b n : BufferState) (s : State) → n.replica ≡ b.replica → rules n ≡ rules b → state n ≡ s → n ≡ with_state s b
same_buffer b n s r l e = λ i. record {
  history = (e i).history;
  waiting = (e i).waiting;
  refused = (e i).refused;
  replica = r i;
  limits = (l i).limits;
  endings = (l i).endings;
}

pub on_stopped : (b : BufferState) (after : Option Lamport) (n m : BufferState) → OnWay b after n → m ≡ n → IsStoppedPass b m
on_stopped b after n m w e = let u = at_until (rules b) (state b) after (state n) w.at in (u.0, e ∙ same_buffer b n (stopped_pass u.0 (rules b) (state b)) w.replica w.same_rules u.1)

abbrev Next : BufferState → BufferState → BufferState → Lamport → Type 0
Next b n m t = OnWay b (Some t) m × (length m.waiting < length n.waiting)

pub on_turn : (b : BufferState) (after : Option Lamport) (n m : BufferState) (t : Lamport) → OnWay b after n → Ascending older n.waiting → Some t ≡ option_map stamp_of (next_ready after n) → m ≡ after_next_turn (next_ready after n) n
    → Next b n m t
on_turn b after n m t w u s e = go (next_ready after n) refl s e
  where
    made : (op : Operation) → next_ready after n ≡ Some op → Next b n (with_state (turn_step (rules n) op (state n)) n) (stamp_of op)
    made op q = (
      record {
        at = subst (λ (l : Rules). IsAt (rules b) (state b) (Some (stamp_of op)) (turn_step l op (state n))) (sym w.same_rules) (at_turn (rules b) (state b) after (state n) op w.at u q);
        replica = w.replica;
        same_rules = w.same_rules;
      },
      fewer (rules n) (state n) after op u q,
    )

    go : (o : Option Operation) → next_ready after n ≡ o → Some t ≡ option_map stamp_of o → m ≡ after_next_turn o n → Next b n m t
    go None q s e = cc
    go (Some op) q s e = let r : t ≡ stamp_of op = cc in subst (λ (x : BufferState). Next b n x t) (sym e) (subst (λ (x : Lamport). Next b n (with_state (turn_step (rules n) op (state n)) n) x) (sym r) (made op q))

pub on_end : (b : BufferState) (after : Option Lamport) (n m : BufferState) → OnWay b after n → None ≡ option_map stamp_of (next_ready after n) → m ≡ after_next_turn (next_ready after n) n → m ≡ after_pass b
on_end b after n m w s e = go (next_ready after n) refl s e
  where
    go : (o : Option Operation) → next_ready after n ≡ o → None ≡ option_map stamp_of o → m ≡ after_next_turn o n → m ≡ after_pass b
    go None q s e = e ∙ same_buffer b n (pass_step (rules b) (state b)) w.replica w.same_rules (at_end (rules b) (state b) after (state n) w.at q)
    go (Some op) q s e = cc
