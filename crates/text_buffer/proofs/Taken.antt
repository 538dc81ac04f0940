-- What a taken operation leaves.
use Rattle.std.proofs.Common.{◌≡◌, ◌⊎◌, inl, inr, ℕ, suc, ◌≤◌, [], ◌∷◌, ◌++◌, length, ap, sym, subst, ◌∙◌, arith, None, Result, Ok, Err}
use Rattle.std.specs.Result.{OnErr}
use Rattle.std.proofs.lemmas.List.{length-append}
use Rattle.op_model.specs.declared.operation.Operation.{Operation}
use Rattle.op_model.specs.Rules.{answer_under}
use Rattle.op_model.specs.Settled.{full_fault}
use Rattle.op_model.specs.Steps.Step.{Takes}
use Rattle.op_model.specs.Steps.{ask_limits, or_full, settle_step, with_applied, with_deferred}
use Rattle.op_model.specs.Answers.{Answer, answer}
use Rattle.op_model.specs.Answers.Answer.{Good, Repeat, Waits, Refused}
use Rattle.op_model.specs.declared.faults.OpFault.{OpFault}
use Rattle.op_model.proofs.answers.Under.{under_clean, under_good}
use Rattle.op_model.proofs.settling.Passes.{settling_grows}
use Rattle.op_model.proofs.settling.Settling.{good_alone}
use Rattle.text_buffer.specs.Buffer.{BufferState, AllMiss, answer_to, after_apply, after_settle, after_take, number_applied, rules, state, with_state}
use Rattle.text_buffer.specs.Calls.{IsStopped}
use Rattle.text_buffer.proofs.Settles.{all_miss}

pub more_applied : (b : BufferState) (op : Operation) → suc (length b.history) ≤ length (after_settle (after_apply b op)).history
more_applied b op = let n = settling_grows (rules b) (b.history ++ op ∷ []) b.waiting in let m = length-append b.history (op ∷ []) in omega arith

-- an operation that is good under the rules is good
pub plain_good : (b : BufferState) (op : Operation) → answer_under b.endings b.history b.waiting op ≡ Good → answer b.history b.waiting op ≡ Good
plain_good b op g = (under_good b.endings b.history b.waiting op g).0

-- and so it is with nothing waiting
pub good_with_none : (b : BufferState) (op : Operation) → answer_under b.endings b.history b.waiting op ≡ Good → answer_under b.endings b.history [] op ≡ Good
good_with_none b op g =
    let u = under_good b.endings b.history b.waiting op g in
    under_clean b.endings b.history [] op u.1 ∙ good_alone b.history b.waiting op u.0

-- an operation that is good and passes no limit has that answer
pub answer_good : (b : BufferState) (op : Operation) → answer_under b.endings b.history b.waiting op ≡ Good → full_fault (rules b) b.history op ≡ None → answer_to b op ≡ Good
answer_good b op g f = ap (λ (a : Answer). ask_limits a (full_fault (rules b) b.history op)) g ∙ ap or_full f

-- ---- what a taken operation leaves

-- a good one is applied, and the buffer settles
pub taken_good : (b : BufferState) (op : Operation) → answer_to b op ≡ Good → after_take b op ≡ after_settle (after_apply b op)
taken_good b op g = ap (λ (a : Answer). with_state (elim a [ Good ↦ settle_step (rules b) (with_applied op (state b)) | Repeat ↦ state b | Waits r v ↦ with_deferred op (state b) | Refused f ↦ state b ]) b) g

-- one that meets a fault is dropped
pub refused_stays : (b n : BufferState) (op : Operation) (e : OpFault) → answer_to b op ≡ Refused e → (n ≡ b) ⊎ IsStopped (Takes op) b n → (n ≡ b) × (after_take b op ≡ b)
refused_stays b n op e g (inl s) = (s, ap (λ (a : Answer). with_state (elim a [ Good ↦ settle_step (rules b) (with_applied op (state b)) | Repeat ↦ state b | Waits r v ↦ with_deferred op (state b) | Refused f ↦ state b ]) b) g)
refused_stays b n op e g (inr s) = absurd (cc (sym s.0 ∙ g))

pub good_misses : (b : BufferState) (op : Operation) → answer_to b op ≡ Good → AllMiss (after_take b op)
good_misses b op g = subst AllMiss (sym (taken_good b op g)) (all_miss (after_apply b op))

pub good_counts : (b : BufferState) (op : Operation) → answer_to b op ≡ Good → 1 ≤ number_applied b (after_take b op)
good_counts b op g =
    let m = more_applied b op in
    let e : length (after_take b op).history ≡ length (after_settle (after_apply b op)).history = ap (λ (n : BufferState). length n.history) (taken_good b op g) in
    omega arith

-- the buffer has no fewer operations once a good one is applied and it has settled
pub not_less : (b : BufferState) (op : Operation) (h g : ℕ) → h ≡ length b.history → g ≡ length (after_settle (after_apply b op)).history → h ≤ g
not_less b op h g e f = let m = more_applied b op in omega arith

pub on_err : {T E : Type 0} (r : Result T E) (P : Type 0) → P → OnErr r P
on_err (Ok x) P p = tt
on_err (Err e) P p = p
