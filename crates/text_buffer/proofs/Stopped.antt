-- Calls that were stopped while they settled.
use Rattle.std.proofs.Common.{◌≡◌, ℕ, List, [], ◌∷◌, ◌++◌, length, take, drop, refl, sym, ◌∙◌, ap, subst, append_assoc, inl, inr, None}
use Rattle.std.specs.List.{AllByRecursion}
use Rattle.std.proofs.lemmas.List.{append-nil}
use Rattle.std.proofs.Math.Seq.{take-length, drop-length, drop-append_seam}
use Rattle.op_model.specs.declared.operation.Operation.{Operation}
use Rattle.op_model.specs.Rules.{Rules, answer_under}
use Rattle.op_model.specs.Sorted.{Ascending}
use Rattle.op_model.specs.Operations.{stamp_of}
use Rattle.op_model.specs.Histories.{operation_at}
use Rattle.op_model.specs.Lawful.{Lawful}
use Rattle.op_model.specs.Answers.{answer}
use Rattle.op_model.specs.Answers.Answer.{Good}
use Rattle.op_model.specs.Settled.{State, pass, full_fault}
use Rattle.op_model.specs.Stopped.{AreAlike, stopped_pass, stopped_settling}
use Rattle.op_model.specs.Steps.{older, Step}
use Rattle.op_model.specs.Steps.Step.{Edits, Undoes, Takes, Settles, Forgets}
use Rattle.op_model.proofs.histories.MoreLawful.{lawful_more}
use Rattle.op_model.proofs.settling.Appending.{pass_longer}
use Rattle.op_model.proofs.settling.GoingOn.{goes_on}
use Rattle.op_model.proofs.settling.Leaves.{pass_lawful}
use Rattle.op_model.proofs.settling.Settling.{good_alone, limited_good}
use Rattle.op_model.proofs.settling.Waiting.{not_waiting}
use Rattle.op_model.proofs.answers.Passed.{passed}
use Rattle.text_buffer.specs.Buffer.{BufferState, IsBuffer, after_apply, after_call, after_settle, answer_to, rules, state, with_state}
use Rattle.text_buffer.specs.Calls.{AreStopped, IsPartly, IsStopped, StopsLead, new_operations}
use Rattle.text_buffer.specs.Document.{IsFront}
use Rattle.text_buffer.specs.Settling.{after_pass, pass_step, IsStoppedPass, IsStoppedSettling}
use Rattle.text_buffer.proofs.Fronts.{front_trans}
use Rattle.text_buffer.proofs.Leaves.{LeavesState, until_leaves, step_leaves, leaves_both}
use Rattle.text_buffer.proofs.Settles.{after_pass_up}
use Rattle.text_buffer.proofs.Taken.{plain_good, taken_good}

-- ---- stops, one after the other

-- settling of b was begun and stopped, once for each number
abbrev Stops : BufferState → BufferState → Type 0
Stops b n = (ks : List ℕ) × (n ≡ with_state (stopped_settling ks (rules b) (state b)) b)

-- a whole pass is one that was stopped after the last turn
whole : (l : Rules) (s : State) → pass_step l s ≡ stopped_pass (length s.waiting) l s
whole l s =
    let p = ap (λ (w : List Operation). pass_step l (record { history = s.history; waiting = w; refused = s.refused })) (sym (take-length s.waiting)) in
    let rest : (pass l s.history (take (length s.waiting) s.waiting)).waiting ≡ (stopped_pass (length s.waiting) l s).waiting =
    sym (ap (λ (w : List Operation). (pass l s.history (take (length s.waiting) s.waiting)).waiting ++ w) (drop-length s.waiting) ∙ append-nil (pass l s.history (take (length s.waiting) s.waiting)).waiting) in
    p ∙ ap (λ (w : List Operation). record { history = (stopped_pass (length s.waiting) l s).history; waiting = w; refused = (stopped_pass (length s.waiting) l s).refused }) rest

joined : (ks js : List ℕ) (l : Rules) (s : State) → stopped_settling (ks ++ js) l s ≡ stopped_settling js l (stopped_settling ks l s)
joined [] js l s = refl
joined (k ∷ ks) js l s = joined ks js l (stopped_pass k l s)

stops_once : (b n : BufferState) → IsStoppedSettling b n → Stops b n
stops_once b n (inl s) = (s.0 ∷ [], s.1)
stops_once b n (inr s) = (length b.waiting ∷ s.0 ∷ [], s.1 ∙ ap (λ (p : State). with_state (stopped_pass s.0 (rules b) p) b) (whole (rules b) (state b)))

stops_more : (b m n : BufferState) → Stops b m → IsStoppedSettling m n → Stops b n
stops_more b m n p s =
    let q = stops_once m n s in
    (p.0 ++ q.0, q.1 ∙ ap (λ (x : BufferState). with_state (stopped_settling q.0 (rules x) (state x)) x) p.1 ∙ ap (λ (x : State). with_state x b) (sym (joined p.0 q.0 (rules b) (state b))))

-- ---- a later settling

-- where a call begins to settle
abbrev begun : Step → BufferState → BufferState
begun (Edits ps) b = b
begun (Undoes ts) b = b
begun (Takes op) b = after_apply b op
begun Settles b = b
begun (Forgets t) b = b

begun_up : (c : Step) (b : BufferState) → IsBuffer b → Ascending older (begun c b).waiting
begun_up (Edits ps) b k = k.waiting_ascending
begun_up (Undoes ts) b k = k.waiting_ascending
begun_up (Takes op) b k = k.waiting_ascending
begun_up Settles b k = k.waiting_ascending
begun_up (Forgets t) b k = k.waiting_ascending

-- the call would settle from there, and was stopped there
begins : (c : Step) (b n : BufferState) → IsStopped c b n → (after_call c b ≡ after_settle (begun c b)) × IsStoppedSettling (begun c b) n
begins (Edits ps) b n s = absurd s
begins (Undoes ts) b n s = absurd s
begins (Takes op) b n s = (taken_good b op s.0, s.1)
begins Settles b n s = (refl, s)
begins (Forgets t) b n s = absurd s

leads : (c : Step) (b : BufferState) (between : List BufferState) (n : BufferState) → StopsLead c b between n → (after_call c b ≡ after_settle (begun c b)) × Stops (begun c b) n
leads c b [] n s = let k = begins c b n s in (k.0, stops_once (begun c b) n k.1)
leads c b (m ∷ between) n s = let k = leads c b between m s.0 in (k.0, stops_more (begun c b) m n k.1 s.1)

settles_alike : (b n : BufferState) → Ascending older b.waiting → Stops b n → AreAlike (state (after_settle b)) (state (after_settle n))
settles_alike b n u s =
    let k = goes_on (rules b) s.0 (state b) u in
    subst (λ (x : BufferState). AreAlike (state (after_settle b)) (state (after_settle x))) (sym s.1) (record { history = k.history; waiting = k.waiting; refused = k.refused })

pub stopped_go_on : (c : Step) (b n : BufferState) → IsBuffer b → AreStopped c b n → AreAlike (state (after_call c b)) (state (after_settle n))
stopped_go_on c b n k s =
    let l = leads c b s.0 n s.1 in
    subst (λ (x : BufferState). AreAlike (state x) (state (after_settle n))) (sym l.0) (settles_alike (begun c b) n (begun_up c b k) l.1)

-- where n has settled, and m is left
pub settled_goes_on : (n m : BufferState) → m ≡ after_settle n → (c : Step) → (b : BufferState) → IsBuffer b → AreStopped c b n → AreAlike (state (after_call c b)) (state m)
settled_goes_on n m e c b k s = subst (λ (x : BufferState). AreAlike (state (after_call c b)) (state x)) (sym e) (stopped_go_on c b n k s)

-- ---- what was applied

leaves_partly : (b n : BufferState) → Lawful n.history → LeavesState (state b) (state n) → n.replica ≡ b.replica → rules n ≡ rules b → IsPartly b n
leaves_partly b n p k r l =
    let d : new_operations b n ≡ k.new = ap (drop (length b.history)) k.history ∙ drop-append_seam b.history k.new in
    record {
      lawful = p;
      prefix = k.history ∙ ap (λ z. b.history ++ z) (sym d);
      applied = subst (AllByRecursion (λ (op : Operation). operation_at n.waiting (stamp_of op) ≡ None)) (sym d) k.apart;
      waiting = k.waiting;
      replica = r;
      limits = ap (λ (x : Rules). x.limits) l;
      endings = ap (λ (x : Rules). x.endings) l;
    }

stopped_partly : (b n : BufferState) → Lawful b.history → Ascending older b.waiting → IsStoppedPass b n → IsPartly b n
stopped_partly b n p u s = subst (IsPartly b) (sym s.1)
    (leaves_partly b (with_state (stopped_pass s.0 (rules b) (state b)) b) (pass_lawful (rules b) b.history _ p) (until_leaves s.0 (rules b) (state b) u) refl refl)

stopped_later : (b n : BufferState) → Lawful b.history → Ascending older b.waiting → IsStoppedPass (after_pass b) n → IsPartly b n
stopped_later b n p u s = subst (IsPartly b) (sym s.1)
    (leaves_partly b (with_state (stopped_pass s.0 (rules b) (state (after_pass b))) (after_pass b)) (pass_lawful (rules b) (after_pass b).history _ (pass_lawful (rules b) b.history b.waiting p))
    (leaves_both (state b) (state (after_pass b)) (stopped_pass s.0 (rules b) (state (after_pass b))) (step_leaves (rules b) (state b) u) (until_leaves s.0 (rules b) (state (after_pass b)) (after_pass_up b u))) refl refl)

partly : (b n : BufferState) → Lawful b.history → Ascending older b.waiting → IsStoppedSettling b n → IsPartly b n
partly b n p u (inl s) = stopped_partly b n p u s
partly b n p u (inr s) = stopped_later b n p u s

one_applied : (b n : BufferState) (op : Operation) → answer b.history b.waiting op ≡ Good → IsPartly (after_apply b op) n → IsPartly b n
one_applied b n op g p =
    let more : List Operation = new_operations (after_apply b op) n in
    let whole : n.history ≡ b.history ++ op ∷ more = p.prefix ∙ append_assoc b.history (op ∷ []) more in
    let new : new_operations b n ≡ op ∷ more = ap (drop (length b.history)) whole ∙ drop-append_seam b.history (op ∷ more) in
    record {
      lawful = p.lawful;
      prefix = whole ∙ ap (λ (m : List Operation). b.history ++ m) (sym new);
      applied = subst (AllByRecursion (λ (o : Operation). operation_at n.waiting (stamp_of o) ≡ None)) (sym new)
          (p.waiting (stamp_of op) (not_waiting b.history b.waiting op (passed b.history b.waiting op g).fresh), p.applied);
      waiting = p.waiting;
      replica = p.replica;
      limits = p.limits;
      endings = p.endings;
    }

taken_partly : (b n : BufferState) (op : Operation) → IsBuffer b → answer_to b op ≡ Good → IsStoppedSettling (after_apply b op) n → IsPartly b n
taken_partly b n op k g s =
    let a : answer b.history b.waiting op ≡ Good = plain_good b op (limited_good (answer_under (rules b).endings b.history b.waiting op) (full_fault (rules b) b.history op) g) in
    one_applied b n op a (partly (after_apply b op) n (lawful_more b.history op k.history.lawful (good_alone b.history b.waiting op a)) k.waiting_ascending s)

pub stopped_apply_partly : (c : Step) (b n : BufferState) → IsBuffer b → IsStopped c b n → IsPartly b n
stopped_apply_partly (Edits ps) b n k s = absurd s
stopped_apply_partly (Undoes ts) b n k s = absurd s
stopped_apply_partly (Takes op) b n k s = taken_partly b n op k s.0 s.1
stopped_apply_partly Settles b n k s = partly b n k.history.lawful k.waiting_ascending s
stopped_apply_partly (Forgets t) b n k s = absurd s

-- ---- it appends

pass_front : (b n : BufferState) → IsStoppedPass b n → IsFront b.history n.history
pass_front b n s =
    let g = pass_longer (rules b) b.history (take s.0 b.waiting) in
    (g.0, ap (λ (x : BufferState). x.history) s.1 ∙ g.1)

settling_front : (b n : BufferState) → IsStoppedSettling b n → IsFront b.history n.history
settling_front b n (inl s) = pass_front b n s
settling_front b n (inr s) = front_trans b.history (after_pass b).history n.history (pass_longer (rules b) b.history b.waiting) (pass_front (after_pass b) n s)

pub stopped_front : (c : Step) (b n : BufferState) → IsStopped c b n → IsFront b.history n.history
stopped_front (Edits ps) b n s = absurd s
stopped_front (Undoes ts) b n s = absurd s
stopped_front (Takes op) b n s = front_trans b.history (after_apply b op).history n.history (op ∷ [], refl) (settling_front (after_apply b op) n s.1)
stopped_front Settles b n s = settling_front b n s
stopped_front (Forgets t) b n s = absurd s
