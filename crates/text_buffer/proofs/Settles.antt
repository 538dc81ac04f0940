-- Settling is one pass or two.
use Rattle.std.proofs.Common.{◌≡◌, ℕ, ◌<◌, ◌≤◌, cond, eqb, length, sym, ◌∙◌, ap, subst, append_assoc, arith}
use Rattle.std.proofs.lemmas.Bool.{eq-eqb}
use Rattle.op_model.specs.Rules.{Rules}
use Rattle.op_model.specs.Sorted.{Ascending}
use Rattle.op_model.specs.Settled.{State, pass, settle}
use Rattle.op_model.specs.Steps.{older, settle_step}
use Rattle.op_model.proofs.settling.TwoPasses.{two_passes}
use Rattle.op_model.proofs.settling.Settling.{settled_misses}
use Rattle.op_model.proofs.settling.Leaves.{pass_up}
use Rattle.op_model.proofs.Elements.{eqb_less}
use Rattle.op_model.proofs.settling.Passes.{after_refused, passes_two}
use Rattle.text_buffer.specs.Buffer.{BufferState, AllMiss, after_settle, rules, state, with_state}
use Rattle.text_buffer.specs.BufferInside.{state_of, IsBufferInside}
use Rattle.text_buffer.specs.declared.buffer.Buffer.TheInside.{Inside}
use Rattle.text_buffer.specs.Settling.{after_pass, pass_step}
use Rattle.text_buffer.proofs.Leaves.{step_leaves, leaves_longer}

by_two : (l : Rules) (s : State) → Ascending older s.waiting
    → settle l s.history s.waiting ≡ cond (eqb (length (pass_step l s).history) (length s.history)) (pass l s.history s.waiting) (after_refused (pass l s.history s.waiting) (pass l (pass_step l s).history (pass_step l s).waiting))
by_two l s u = two_passes l s.history s.waiting u ∙ passes_two l s.history s.waiting

-- a pass that applied nothing is all
settled_once : (l : Rules) (s : State) → Ascending older s.waiting → length (pass_step l s).history ≡ length s.history → settle_step l s ≡ pass_step l s
settled_once l s u e = ap (after_refused s) (by_two l s u ∙ ap (λ b. cond b (pass l s.history s.waiting) (after_refused (pass l s.history s.waiting) (pass l (pass_step l s).history (pass_step l s).waiting))) (eq-eqb (length (pass_step l s).history) (length s.history) e))

-- else a second one is
settled_twice : (l : Rules) (s : State) → Ascending older s.waiting → length s.history < length (pass_step l s).history → settle_step l s ≡ pass_step l (pass_step l s)
settled_twice l s u e = ap (after_refused s) (by_two l s u ∙ ap (λ b. cond b (pass l s.history s.waiting) (after_refused (pass l s.history s.waiting) (pass l (pass_step l s).history (pass_step l s).waiting))) (eqb_less (length s.history) (length (pass_step l s).history) e))
    ∙ ap (λ z. record { history = (pass_step l (pass_step l s)).history; waiting = (pass_step l (pass_step l s)).waiting; refused = z }) (sym (append_assoc s.refused (pass l s.history s.waiting).refused (pass l (pass_step l s).history (pass_step l s).waiting).refused))

-- ---- of a buffer

longer : (b : BufferState) → Ascending older b.waiting → length b.history ≤ length (after_pass b).history
longer b u = leaves_longer b.history b.waiting (after_pass b).history (after_pass b).waiting (step_leaves (rules b) (state b) u)

pub after_pass_up : (b : BufferState) → Ascending older b.waiting → Ascending older (after_pass b).waiting
after_pass_up b u = pass_up (rules b) b.history b.waiting u

longer_twice : (b : BufferState) → Ascending older b.waiting → length b.history ≤ length (after_pass (after_pass b)).history
longer_twice b u = let x = longer b u in let y = longer (after_pass b) (after_pass_up b u) in omega arith

once : (b : BufferState) → Ascending older b.waiting → length (after_pass b).history ≡ length b.history → after_settle b ≡ after_pass b
once b u e = ap (λ (s : State). with_state s b) (settled_once (rules b) (state b) u e)

twice : (b : BufferState) → Ascending older b.waiting → (length (after_pass b).history ≡ length b.history → ⊥) → after_settle b ≡ after_pass (after_pass b)
twice b u n = let x = longer b u in ap (λ (s : State). with_state s b) (settled_twice (rules b) (state b) u (grows x n))
  where
    grows : (x : length b.history ≤ length (after_pass b).history) (n : length (after_pass b).history ≡ length b.history → ⊥) → length b.history < length (after_pass b).history
    grows x n = omega arith

pub all_miss : (b : BufferState) → AllMiss (after_settle b)
all_miss b = settled_misses (rules b) b.history b.waiting

-- ---- from the fields

up : (i : Inside) (b : BufferState) → IsBufferInside i → state_of i ≡ b → Ascending older b.waiting
up i b k v = subst (λ (x : BufferState). Ascending older x.waiting) v k.waiting_ascending

length_is : (i : Inside) (b : BufferState) (s : ℕ) → s ≡ length i.document → state_of i ≡ b → s ≡ length b.history
length_is i b s e v = e ∙ ap (λ (x : BufferState). length x.history) v

-- the histories before and after the first pass
module _ (i j : Inside) (b m : BufferState) (s r : ℕ) (k : IsBufferInside i) (v : state_of i ≡ b) (w : state_of j ≡ m) (e : s ≡ length i.document) (f : r ≡ length j.document) (p : m ≡ after_pass b) where
  pub after_one : r ≡ s → m ≡ after_settle b
  after_one n = p ∙ sym (once b (up i b k v) (ap (λ (x : BufferState). length x.history) (sym p) ∙ sym (length_is j m r f w) ∙ n ∙ length_is i b s e v))

  pub after_two : (n : BufferState) → (r ≡ s → ⊥) → n ≡ after_pass m → n ≡ after_settle b
  after_two n d q = q ∙ ap after_pass p ∙ sym (twice b (up i b k v) (λ x. d (length_is j m r f w ∙ ap (λ (y : BufferState). length y.history) p ∙ x ∙ sym (length_is i b s e v))))

pub no_shorter : (i j : Inside) (b m n : BufferState) (s r : ℕ) → IsBufferInside i → state_of i ≡ b → state_of j ≡ n → s ≡ length i.document → r ≡ length j.document → m ≡ after_pass b → n ≡ after_pass m → s ≤ r
no_shorter i j b m n s r k v w e f p q =
    let x : length b.history ≤ length (after_pass (after_pass b)).history = longer_twice b (up i b k v) in
    let y : r ≡ length (after_pass (after_pass b)).history = length_is j n r f w ∙ ap (λ (z : BufferState). length z.history) (q ∙ ap after_pass p) in
    let z : s ≡ length b.history = length_is i b s e v in
    omega arith
