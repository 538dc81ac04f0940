-- Settling: it keeps histories lawful, its bound on passes is enough, and what waits then misses a cause. Runs of calls
-- keep histories lawful.
use Rattle.std.proofs.Common.{◌≡◌, ℕ, zero, suc, ◌+◌, ◌<◌, ◌≤◌, ◌⊎◌, Bool, List, [], ◌∷◌, ◌++◌, length, refl, sym, ◌∙◌, ap, subst, inl, inr, true, false, cond, eqb, ltb, leb, arith, Some, None, Option, not}
use Rattle.std.specs.Prelude.{IsUtf8, option_map, unwrap_or, is_some}
use Rattle.std.specs.List.{AllByRecursion, list_any}
use Rattle.std.proofs.lemmas.Bool.{cases_Bool, and_parts, leb-true, le-ltb, eqb-true}
use Rattle.std.proofs.lemmas.Bool.Decides.{nat_tests}
use Rattle.std.proofs.lemmas.List.{length-append}
use Rattle.lamport_clock.specs.Stamps.{same_stamp}
use Rattle.lamport_clock.specs.Versions.{Entries, entry, within}
use Rattle.op_model.specs.declared.operation.Operation.{Operation}
use Rattle.op_model.specs.Rules.{Rules, answer_under, pieces_under}
use Rattle.op_model.specs.declared.faults.OpFault.{OpFault}
use Rattle.op_model.specs.Operations.{stamp_of, version_of}
use Rattle.op_model.specs.Histories.{History, version}
use Rattle.op_model.specs.Domains.{IsProper, IsReplica}
use Rattle.op_model.specs.Made.{local_edit, local_undo, local_edit_fault, local_undo_fault}
use Rattle.op_model.specs.Answers.{Answer, answer, objection, any_equal, same_op, first_missing}
use Rattle.op_model.specs.Answers.Answer.{Good, Repeat, Waits, Refused}
use Rattle.op_model.specs.Lawful.{Lawful}
use Rattle.op_model.specs.Settled.{State, Turn, turn, turn_of, full_fault, with_waiting, with_first_refusal, pass, passes, settle}
use Rattle.op_model.specs.Settled.Turn.{Append, Drop, Stay, Refuse}
use Rattle.op_model.specs.Steps.{new_state, with_applied, settle_step, ask_limits, take_answer, older, with_deferred, Step, step, run, IsProperStep}
use Rattle.op_model.specs.Steps.Step.{Edits, Undoes, Takes, Settles, Forgets}
use Rattle.op_model.proofs.order.Insertion.{each_insert}
use Rattle.op_model.proofs.answers.Passed.{passed, good, none_find, any_none, none_any, when_other, objection_not}
use Rattle.op_model.proofs.histories.MoreLawful.{lawful_more}
use Rattle.op_model.proofs.answers.Under.{under_good, under_waits}
use Rattle.op_model.proofs.texts.Entering.{entering_utf8}
use Rattle.op_model.proofs.histories.Proper.{edit_good, undo_good, made_proper, undo_proper}
use Rattle.op_model.proofs.Elements.{each_left, each_map, each_append, each_unit, each_filter}

-- ---- a turn

of_append : (a : Answer) (f : Option OpFault) → turn_of a f ≡ Append → a ≡ Good
of_append Good f e = refl
of_append Repeat f e = cc
of_append (Waits r v) f e = cc
of_append (Refused x) f e = cc

pub append_good : (l : Rules) (h : History) (op : Operation) → turn l h op ≡ Append → answer h [] op ≡ Good
append_good l h op e = go (within (version_of op) (version h)) e
  where
    go : (b : Bool) → cond b (turn_of (answer_under l.endings h [] op) (full_fault l h op)) Stay ≡ Append → answer h [] op ≡ Good
    go true e = (under_good l.endings h [] op (of_append (answer_under l.endings h [] op) (full_fault l h op) e)).0
    go false e = cc

-- what a turn makes
abbrev pub after : Turn → Rules → History → Operation → List Operation → State
after Append l h op w = pass l (h ++ op ∷ []) w
after Drop l h op w = pass l h w
after Stay l h op w = with_waiting op (pass l h w)
after (Refuse f) l h op w = with_first_refusal (stamp_of op, f) (pass l h w)

pub pass_is : (l : Rules) (h : History) (op : Operation) (w : List Operation) → pass l h (op ∷ w) ≡ after (turn l h op) l h op w
unfolding pass
pass_is l h op w = go (turn l h op)
  where
    go : (t : Turn) → elim t [ Append ↦ pass l (h ++ op ∷ []) w | Drop ↦ pass l h w | Stay ↦ with_waiting op (pass l h w) | Refuse f ↦ with_first_refusal (stamp_of op, f) (pass l h w) ] ≡ after t l h op w
    go Append = refl
    go Drop = refl
    go Stay = refl
    go (Refuse f) = refl

-- ---- what passes keep

module _ (l : Rules) (P : History → Type 0) (Q : Operation → Type 0) (more : (h : History) (op : Operation) → P h → Q op → turn l h op ≡ Append → P (h ++ op ∷ [])) where
  abbrev Kept : State → Type 0
  Kept s = P s.history × AllByRecursion Q s.waiting

  pub pass_keeps : (h : History) (w : List Operation) → P h → AllByRecursion Q w → Kept (pass l h w)
  unfolding pass
  pass_keeps h [] p q = (p, tt)
  pass_keeps h (op ∷ w) p q = subst Kept (sym (pass_is l h op w)) (go (turn l h op) refl (λ g x. pass_keeps g w x q.1))
    where
      go : (t : Turn) → turn l h op ≡ t → ((g : History) → P g → Kept (pass l g w)) → Kept (after t l h op w)
      go Append e f = f (h ++ op ∷ []) (more h op p q.0 e)
      go Drop e f = f h p
      go Stay e f = let k = f h p in (k.0, (q.0, k.1))
      go (Refuse x) e f = f h p

  pub passes_keep : (n : ℕ) (h : History) (w : List Operation) → P h → AllByRecursion Q w → Kept (passes n l h w)
  unfolding passes
  passes_keep zero h w p q = (p, q)
  passes_keep (suc n) h w p q = let k = pass_keeps h w p q in
      go (eqb (length (pass l h w).history) (length h)) k (passes_keep n (pass l h w).history (pass l h w).waiting k.0 k.1)
    where
      go : (b : Bool) → Kept (pass l h w) → Kept (passes n l (pass l h w).history (pass l h w).waiting)
          → Kept (cond b (pass l h w) (let r : State = passes n l (pass l h w).history (pass l h w).waiting in record { history = r.history; waiting = r.waiting; refused = (pass l h w).refused ++ r.refused }))
      go true k r = k
      go false k r = r

  pub settled_keeps : (h : History) (w : List Operation) → P h → AllByRecursion Q w → Kept (settle l h w)
  unfolding settle
  settled_keeps h w p q = passes_keep (suc (length w)) h w p q

-- ---- the bound on passes

abbrev pub Stays : Rules → History → List Operation → Type 0
Stays l h w = AllByRecursion (λ (op : Operation). turn l h op ≡ Stay) w

length_more : (h : History) (op : Operation) → length (h ++ op ∷ []) ≡ suc (length h)
length_more h op = let e = length-append h (op ∷ []) in omega arith

pass_grows : (l : Rules) (h : History) (w : List Operation) → (length h ≤ length (pass l h w).history) × (length (pass l h w).history + length (pass l h w).waiting ≤ length h + length w)
unfolding pass
pass_grows l h [] = (omega arith, omega arith)
pass_grows l h (op ∷ w) = subst (λ (s : State). (length h ≤ length s.history) × (length s.history + length s.waiting ≤ length h + length (op ∷ w))) (sym (pass_is l h op w)) (go (turn l h op) (pass_grows l (h ++ op ∷ []) w) (pass_grows l h w))
  where
    go : (t : Turn) → (length (h ++ op ∷ []) ≤ length (pass l (h ++ op ∷ []) w).history) × (length (pass l (h ++ op ∷ []) w).history + length (pass l (h ++ op ∷ []) w).waiting ≤ length (h ++ op ∷ []) + length w)
        → (length h ≤ length (pass l h w).history) × (length (pass l h w).history + length (pass l h w).waiting ≤ length h + length w)
        → (length h ≤ length (after t l h op w).history) × (length (after t l h op w).history + length (after t l h op w).waiting ≤ length h + length (op ∷ w))
    go Append a b = let m = length_more h op in let x = a.0 in let y = a.1 in (omega arith, omega arith)
    go Drop a b = let x = b.0 in let y = b.1 in (omega arith, omega arith)
    go Stay a b = let x = b.0 in let y = b.1 in (omega arith, omega arith)
    go (Refuse f) a b = let x = b.0 in let y = b.1 in (omega arith, omega arith)

-- where a pass applies nothing, the history is as before, and what still waits would stay again
pub pass_still : (l : Rules) (h : History) (w : List Operation) → length (pass l h w).history ≡ length h → ((pass l h w).history ≡ h) × Stays l h (pass l h w).waiting
unfolding pass
pass_still l h [] e = (refl, tt)
pass_still l h (op ∷ w) e = subst (λ (s : State). (s.history ≡ h) × Stays l h s.waiting) (sym (pass_is l h op w))
    (go (turn l h op) refl (ap (λ (s : State). length s.history) (sym (pass_is l h op w)) ∙ e) (pass_grows l (h ++ op ∷ []) w).0 (pass_still l h w))
  where
    go : (t : Turn) → turn l h op ≡ t → length (after t l h op w).history ≡ length h → length (h ++ op ∷ []) ≤ length (pass l (h ++ op ∷ []) w).history
        → (length (pass l h w).history ≡ length h → ((pass l h w).history ≡ h) × Stays l h (pass l h w).waiting)
        → ((after t l h op w).history ≡ h) × Stays l h (after t l h op w).waiting
    go Append e f g r = let m = length_more h op in absurd (omega arith)
    go Drop e f g r = r f
    go Stay e f g r = let k = r f in (k.0, (e, k.1))
    go (Refuse x) e f g r = r f

-- a pass over what would stay changes nothing
pub pass_fixed : (l : Rules) (h : History) (w : List Operation) → Stays l h w → pass l h w ≡ record { history = h; waiting = w; refused = [] }
unfolding pass
pass_fixed l h [] s = refl
pass_fixed l h (op ∷ w) s = pass_is l h op w ∙ ap (λ (t : Turn). after t l h op w) s.0 ∙ ap (with_waiting op) (pass_fixed l h w s.1)

same_length : (x y : ℕ) → eqb x y ≡ false → x ≡ y → ⊥
same_length x y e i = grind (arith, nat_tests)

passes_stay : (n : ℕ) (l : Rules) (h : History) (w : List Operation) → length w < n → Stays l (passes n l h w).history (passes n l h w).waiting
unfolding passes
passes_stay zero l h w b = absurd (omega arith)
passes_stay (suc n) l h w b = go (cases_Bool (eqb (length (pass l h w).history) (length h))) (λ x. passes_stay n l (pass l h w).history (pass l h w).waiting x)
  where
    go : (eqb (length (pass l h w).history) (length h) ≡ true) ⊎ (eqb (length (pass l h w).history) (length h) ≡ false)
        → (length (pass l h w).waiting < n → Stays l (passes n l (pass l h w).history (pass l h w).waiting).history (passes n l (pass l h w).history (pass l h w).waiting).waiting)
        → Stays l (passes (suc n) l h w).history (passes (suc n) l h w).waiting
    go (inl e) f = let k = pass_still l h w (eqb-true (length (pass l h w).history) (length h) e) in rw e (subst (λ (g : History). Stays l g (pass l h w).waiting) (sym k.0) k.1)
    go (inr e) f = let g = pass_grows l h w in let x = g.0 in let y = g.1 in let z = same_length (length (pass l h w).history) (length h) e in
        rw e (f (less (length (pass l h w).history) (length h) (length (pass l h w).waiting) (length w) x y z b))
      where
        less : (a c d f : ℕ) → c ≤ a → a + d ≤ c + f → (a ≡ c → ⊥) → f < suc n → d < n
        less a c d f p q r s = elim (Rattle.std.proofs.lemmas.Bool.cases_lt c a) [ inl t ↦ omega arith | inr t ↦ absurd (r (omega arith)) ]

pub settled_stay : (l : Rules) (h : History) (w : List Operation) → Stays l (settle l h w).history (settle l h w).waiting
unfolding settle
settled_stay l h w = passes_stay (suc (length w)) l h w (omega arith)

pub settled_fixed : (l : Rules) (h : History) (w : List Operation) → pass l (settle l h w).history (settle l h w).waiting ≡ record { history = (settle l h w).history; waiting = (settle l h w).waiting; refused = [] }
settled_fixed l h w = pass_fixed l (settle l h w).history (settle l h w).waiting (settled_stay l h w)

-- ---- what stays misses a cause

pub unwrapped : (o : Option Answer) (a : Answer) → (Good ≡ a → ⊥) → (o ≡ Some a → ⊥) → unwrap_or o Good ≡ a → ⊥
unwrapped None a n m e = n e
unwrapped (Some x) a n m e = m (ap Some e)

-- an operation that misses nothing does not wait
pub not_waits : (h : History) (w : List Operation) (op : Operation) (r v : ℕ) → first_missing h (version_of op) ≡ None → answer h w op ≡ Waits r v → ⊥
unfolding answer
not_waits h w op r v m e = unwrapped (objection h w op) (Waits r v) (λ q. cc) (objection_not (Waits r v) h w op (λ f q. cc)
    (when_other (Waits r v) (any_equal (h ++ w) op) Repeat (λ q. cc)) (none m)) e
  where
    none : first_missing h (version_of op) ≡ None → option_map (λ (e : ℕ × ℕ). Waits e.0 e.1) (first_missing h (version_of op)) ≡ Some (Waits r v) → ⊥
    none m q = let z : option_map (λ (e : ℕ × ℕ). Waits e.0 e.1) None ≡ Some (Waits r v) = subst (λ (o : Option (ℕ × ℕ)). option_map (λ (e : ℕ × ℕ). Waits e.0 e.1) o ≡ Some (Waits r v)) m q in cc

pub within_none : (h : History) (v : Entries) → within v (version h) ≡ true → first_missing h v ≡ None
within_none h v e = none_find (λ e. ltb (entry (version h) e.0) e.1) v (go v e)
  where
    go : (u : Entries) → within u (version h) ≡ true → AllByRecursion (λ (e : ℕ × ℕ). ltb (entry (version h) e.0) e.1 ≡ false) u
    go [] e = tt
    go (x ∷ u) e = let a = and_parts (leb x.1 (entry (version h) x.0)) (within u (version h)) e in (le-ltb (entry (version h) x.0) x.1 (leb-true x.1 (entry (version h) x.0) a.0), go u a.1)

of_stay : (a : Answer) (f : Option OpFault) → turn_of a f ≡ Stay → (r : ℕ) × (v : ℕ) × (a ≡ Waits r v)
of_stay Good None e = cc
of_stay Good (Some x) e = cc
of_stay Repeat f e = cc
of_stay (Waits r v) f e = (r, v, refl)
of_stay (Refused x) f e = cc

pub stay_misses : (l : Rules) (h : History) (op : Operation) → turn l h op ≡ Stay → within (version_of op) (version h) ≡ false
stay_misses l h op e = go (cases_Bool (within (version_of op) (version h)))
  where
    go : (within (version_of op) (version h) ≡ true) ⊎ (within (version_of op) (version h) ≡ false) → within (version_of op) (version h) ≡ false
    go (inl w) = let t : turn_of (answer_under l.endings h [] op) (full_fault l h op) ≡ Stay = subst (λ (b : Bool). cond b (turn_of (answer_under l.endings h [] op) (full_fault l h op)) Stay ≡ Stay) w e in
        let a = of_stay (answer_under l.endings h [] op) (full_fault l h op) t in absurd (not_waits h [] op a.0 a.1 (within_none h (version_of op) w) (under_waits l.endings h [] op a.0 a.1 a.2).0)
    go (inr w) = w

pub settled_misses : (l : Rules) (h : History) (w : List Operation) → AllByRecursion (λ (op : Operation). within (version_of op) (version (settle l h w).history) ≡ false) (settle l h w).waiting
settled_misses l h w = each_map (λ (op : Operation). turn l (settle l h w).history op ≡ Stay) (λ (op : Operation). within (version_of op) (version (settle l h w).history) ≡ false)
    (λ op e. stay_misses l (settle l h w).history op e) (settle l h w).waiting (settled_stay l h w)

pub settled_lawful : (l : Rules) (h : History) (w : List Operation) → Lawful h → Lawful (settle l h w).history
settled_lawful l h w p = (settled_keeps l Lawful (λ op. Unit {0}) (λ g op a b e. lawful_more g op a (append_good l g op e)) h w p (each_unit w)).0

-- ---- runs of calls

abbrev pub Holds : State → Type 0
Holds s = Lawful s.history × AllByRecursion IsProper s.history × AllByRecursion IsProper s.waiting

abbrev pub GoodHistory : History → Type 0
GoodHistory h = Lawful h × AllByRecursion IsProper h

more_good : (h : History) (op : Operation) → GoodHistory h → IsProper op → answer h [] op ≡ Good → GoodHistory (h ++ op ∷ [])
more_good h op p q g = (lawful_more h op p.0 g, each_append IsProper h (op ∷ []) p.1 (q, tt))

any_front : (t : Operation → Bool) (h w : List Operation) → list_any t (h ++ w) ≡ false → list_any t (h ++ []) ≡ false
any_front t h w e = none_any t (h ++ []) (each_append (λ x. t x ≡ false) h [] (each_left (λ x. t x ≡ false) h w (any_none t (h ++ w) e)) tt)

pub good_alone : (h : History) (w : List Operation) (op : Operation) → answer h w op ≡ Good → answer h [] op ≡ Good
good_alone h w op g = let p = passed h w op g in good h [] op (record {
  shape = p.shape;
  unequal = any_front (λ o. same_op o op) h w p.unequal;
  fresh = any_front (λ o. same_stamp (stamp_of o) (stamp_of op)) h w p.fresh;
  chained = p.chained;
  caused = p.caused;
  closed = p.closed;
  ranges = p.ranges;
  counts = p.counts;
})

pub limited_good : (a : Answer) (f : Option OpFault) → ask_limits a f ≡ Good → a ≡ Good
limited_good Good f e = refl
limited_good Repeat f e = cc
limited_good (Waits r v) f e = cc
limited_good (Refused x) f e = cc

settle_holds : (l : Rules) (s : State) → Holds s → Holds (settle_step l s)
settle_holds l s i = let k = settled_keeps l GoodHistory IsProper (λ h op p q e. more_good h op p q (append_good l h op e)) s.history s.waiting (i.0, i.1) i.2 in (k.0.0, k.0.1, k.1)

apply_holds : (op : Operation) (s : State) → Holds s → IsProper op → answer s.history [] op ≡ Good → Holds (with_applied op s)
apply_holds op s i p g = let m = more_good s.history op (i.0, i.1) p g in (m.0, m.1, i.2)

pub none_or : {A : Type 0} (o : Option A) → (o ≡ None) ⊎ (is_some o ≡ true)
none_or None = inl refl
none_or (Some x) = inr refl

pub step_holds : (l : Rules) (r : ℕ) (c : Step) (s : State) → IsReplica r → IsProperStep c → Holds s → Holds (step l r c s)
step_holds l r (Edits ps) s i p h = elim (none_or (local_edit_fault l.limits s.history (pieces_under l.endings ps))) [
  | inl e ↦ rw e (apply_holds (local_edit s.history r (pieces_under l.endings ps)) s h (made_proper l.limits s.history r (pieces_under l.endings ps) e (entering_utf8 l.endings ps p)) (edit_good l.limits s.history r (pieces_under l.endings ps) h.0 h.1 i e).0)
  | inr e ↦ rw e h
]
step_holds l r (Undoes ts) s i p h = elim (none_or (local_undo_fault l.limits s.history ts)) [
  | inl e ↦ rw e (apply_holds (local_undo s.history r ts) s h (undo_proper l.limits s.history r ts e) (undo_good l.limits s.history r ts h.0 h.1 i e))
  | inr e ↦ rw e h
]
step_holds l r (Takes op) s i p h = go (take_answer l s op) refl
  where
    go : (a : Answer) → take_answer l s op ≡ a
        → Holds (elim a [ Good ↦ settle_step l (with_applied op s) | Repeat ↦ s | Waits q v ↦ with_deferred op s | Refused f ↦ s ])
    go Good e = settle_holds l (with_applied op s) (apply_holds op s h p (good_alone s.history s.waiting op (under_good l.endings s.history s.waiting op (limited_good (answer_under l.endings s.history s.waiting op) (full_fault l s.history op) e)).0))
    go Repeat e = h
    go (Waits q v) e = (h.0, h.1, each_insert IsProper older op s.waiting p h.2)
    go (Refused f) e = h
step_holds l r Settles s i p h = settle_holds l s h
step_holds l r (Forgets t) s i p h = (h.0, h.1, each_filter IsProper (λ o. not (same_stamp (stamp_of o) t)) s.waiting h.2)

pub run_holds : (l : Rules) (r : ℕ) (cs : List Step) (s : State) → IsReplica r → AllByRecursion IsProperStep cs → Holds s → Holds (run l r cs s)
run_holds l r [] s i p h = h
run_holds l r (c ∷ cs) s i p h = run_holds l r cs (step l r c s) i p.1 (step_holds l r c s i p.0 h)

pub opened_holds : (t : List ℕ) → IsUtf8 t → Holds (new_state t)
opened_holds t u = (((t, refl), tt), ((omega arith, (u, tt)), tt), tt)
