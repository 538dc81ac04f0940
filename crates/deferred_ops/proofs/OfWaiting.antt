-- Each listed cause is of an operation that waits.
use Rattle.std.proofs.Common.{◌≡◌, ◌⊎◌, inl, inr, ◌<◌, ◌+◌, ℕ, suc, Bool, true, false, cond, not, List, [], ◌∷◌, refl, sym, ap, ◌∙◌, Some, None, arith, subst, true≢false, lt-ltb, ne_eqb, le-ltb, length, drop, get_or}
use Rattle.std.proofs.Math.Seq.{drop-cons}
use Rattle.std.specs.Prelude.{unwrap_or}
use Rattle.std.specs.List.{list_any}
use Rattle.std.proofs.lemmas.Bool.{cases_Bool}
use Rattle.std.specs.Ordering.{is_eq, nat_cmp, ordering_then}
use Rattle.std.specs.declared.cmp.Ordering.{Ordering}
use Rattle.std.specs.declared.cmp.Ordering.TheVariants.{Less, Equal, Greater}
use Rattle.std.specs.BTreeMap.{is_at}
use Rattle.lamport_clock.specs.declared.stamp.Lamport.{Lamport}
use Rattle.lamport_clock.specs.Stamps.{same_stamp, stamp_cmp}
use Rattle.lamport_clock.proofs.Order.{is_eq-same, same_sym}
use Rattle.lamport_clock.proofs.Raises.{by_order}
use Rattle.lamport_clock.proofs.Later.{same_stamp_eq, same_stamp_refl}
use Rattle.op_model.specs.declared.operation.Operation.{Operation}
use Rattle.op_model.specs.Sorted.{Member, insert_by}
use Rattle.op_model.specs.Operations.{stamp_of, version_of}
use Rattle.op_model.specs.Histories.{operation_at}
use Rattle.op_model.specs.Steps.{older, without}
use Rattle.op_model.proofs.answers.Passed.{if_some}
use Rattle.deferred_ops.proofs.Listing.{other_stamp, same_here}
use Rattle.deferred_ops.specs.Deferred.{AddsCauses, AreOfWaiting, Cause, Causes, IsOfWaiting, KeepsCauses, KeepsOthers, NoneListed, cause_order, has_cause}

-- ---- causes that are equal in their order are one

both_equal : (o p : Ordering) → is_eq (ordering_then o p) ≡ true → (is_eq o ≡ true) × (is_eq p ≡ true)
both_equal Less p e = absurd (true≢false (sym e))
both_equal Equal p e = (refl, e)
both_equal Greater p e = absurd (true≢false (sym e))

equal_numbers : (m n : ℕ) → is_eq (nat_cmp m n) ≡ true → m ≡ n
equal_numbers m n e =
    by_order _ m n
    (λ l. let bad = rw (lt-ltb m n l) at e in absurd (true≢false (sym bad)))
    (λ q. q)
    (λ g. let bad = rw (le-ltb m n (omega arith), ne_eqb m n (λ q. absurd (omega arith))) at e in absurd (true≢false (sym bad)))

pub same_cause : (a b : Cause) → is_at (cause_order a) b ≡ true → a ≡ b
same_cause a b e =
    let last = both_equal (ordering_then (nat_cmp a.0 b.0) (nat_cmp a.1 b.1)) (stamp_cmp a.2 b.2) e in
    let first = both_equal (nat_cmp a.0 b.0) (nat_cmp a.1 b.1) last.0 in
    let r : a.0 ≡ b.0 = equal_numbers a.0 b.0 first.0 in
    let x : a.1 ≡ b.1 = equal_numbers a.1 b.1 first.1 in
    let t : a.2 ≡ b.2 = same_stamp_eq a.2 b.2 (sym (is_eq-same a.2 b.2) ∙ last.1) in
    λ i. (r i, x i, t i)

-- ---- what is found once the list has changed

pub found_stamp : (w : List Operation) (t : Lamport) (op : Operation) → operation_at w t ≡ Some op → stamp_of op ≡ t
found_stamp [] t op e = absurd (cc e)
found_stamp (o ∷ w) t op e = go (same_stamp (stamp_of o) t) refl e (found_stamp w t op)
  where
    go : (b : Bool) → same_stamp (stamp_of o) t ≡ b → cond b (Some o) (operation_at w t) ≡ Some op → (operation_at w t ≡ Some op → stamp_of op ≡ t) → stamp_of op ≡ t
    go true q is later = ap stamp_of (sym (ap (λ x. unwrap_or x o) is)) ∙ same_stamp_eq (stamp_of o) t q
    go false q is later = later is

other_without : (t u : Lamport) (w : List Operation) → same_stamp u t ≡ false → operation_at (without t w) u ≡ operation_at w u
other_without t u [] apart = refl
other_without t u (o ∷ w) apart = go (same_stamp (stamp_of o) t) refl (other_without t u w apart)
  where
    go : (b : Bool) → same_stamp (stamp_of o) t ≡ b → operation_at (without t w) u ≡ operation_at w u
        → operation_at (cond (not b) (o ∷ without t w) (without t w)) u ≡ cond (same_stamp (stamp_of o) u) (Some o) (operation_at w u)
    go true q rest =
        let no : same_stamp (stamp_of o) u ≡ false = same_sym (stamp_of o) u ∙ ap (same_stamp u) (same_stamp_eq (stamp_of o) t q) ∙ apart in
        rest ∙ sym (ap (λ b. cond b (Some o) (operation_at w u)) no)
    go false q rest = ap (λ z. cond (same_stamp (stamp_of o) u) (Some o) z) rest

other_added : (op : Operation) (u : Lamport) (w : List Operation) → same_stamp (stamp_of op) u ≡ false → operation_at (insert_by older op w) u ≡ operation_at w u
other_added op u [] apart = ap (λ b. cond b (Some op) None) apart
other_added op u (o ∷ w) apart = go (older o op) (other_added op u w apart)
  where
    go : (b : Bool) → operation_at (insert_by older op w) u ≡ operation_at w u → operation_at (cond b (o ∷ insert_by older op w) (op ∷ o ∷ w)) u ≡ operation_at (o ∷ w) u
    go true rest = ap (λ z. cond (same_stamp (stamp_of o) u) (Some o) z) rest
    go false rest = ap (λ b. cond b (Some op) (operation_at (o ∷ w) u)) apart

new_added : (op : Operation) (w : List Operation) → operation_at w (stamp_of op) ≡ None → operation_at (insert_by older op w) (stamp_of op) ≡ Some op
new_added op [] none = ap (λ b. cond b (Some op) None) (same_stamp_refl (stamp_of op))
new_added op (o ∷ w) none =
    let first = if_some (same_stamp (stamp_of o) (stamp_of op)) o (operation_at w (stamp_of op)) none in
    go (older o op) first.0 (new_added op w first.1)
  where
    go : (b : Bool) → same_stamp (stamp_of o) (stamp_of op) ≡ false → operation_at (insert_by older op w) (stamp_of op) ≡ Some op
        → operation_at (cond b (o ∷ insert_by older op w) (op ∷ o ∷ w)) (stamp_of op) ≡ Some op
    go true apart rest = ap (λ b. cond b (Some o) (operation_at (insert_by older op w) (stamp_of op))) apart ∙ rest
    go false apart rest = ap (λ b. cond b (Some op) (operation_at (o ∷ w) (stamp_of op))) (same_stamp_refl (stamp_of op))

-- ---- causes that come and go

pub same_keys : (s n : Causes) → n.keys ≡ s.keys → KeepsCauses n s
same_keys s n same = λ q has. sym (ap (list_any (is_at (cause_order q))) same) ∙ has

pub adds_one : (s n : Causes) (op : Operation) (missed : Cause) → ((q : Cause) → has_cause n q ≡ cond (is_at (cause_order missed) q) true (has_cause s q)) → missed.2 ≡ stamp_of op → Member (missed.0, missed.1) (version_of op) → AddsCauses op s n
adds_one s n op missed changes is among = λ q has. elim (cases_Bool (is_at (cause_order missed) q)) [
  | inl here ↦ inr (subst (λ (z : Cause). (z.2 ≡ stamp_of op) × Member (z.0, z.1) (version_of op)) (same_cause missed q here) (is, among))
  | inr past ↦ inl (sym (changes q ∙ ap (λ b. cond b true (has_cause s q)) past) ∙ has)
]

kept : (b h : Bool) → cond b false h ≡ true → h ≡ true
kept true h e = absurd (true≢false (sym e))
kept false h e = e

pub adds_none : (s n : Causes) (op : Operation) → KeepsCauses n s → AddsCauses op s n
adds_none s n op fewer = λ q has. inl (fewer q has)

-- a cause that was taken out and another one that could not be listed
pub fewer_than : (s m n : Causes) (seen : Cause) → ((q : Cause) → has_cause m q ≡ cond (is_at (cause_order seen) q) false (has_cause s q)) → n.keys ≡ m.keys → KeepsCauses n s
fewer_than s m n seen changes same = λ q has. kept (is_at (cause_order seen) q) (has_cause s q) (sym (changes q) ∙ same_keys m n same q has)

-- ---- the causes of an operation, one after the other

module _ (s n : Causes) (v : List (ℕ × ℕ)) (t : Lamport) (e : ℕ × ℕ) (changes : (q : Cause) → has_cause n q ≡ cond (is_at (cause_order (e.0, e.1, t)) q) false (has_cause s q)) where
  -- those up to the i-th are gone
  pub gone_further : (i : ℕ) (d : ℕ × ℕ) → i < length v → get_or v i d ≡ e → ((r x : ℕ) → Member (r, x) v → (has_cause s (r, x, t) ≡ false) ⊎ Member (r, x) (drop i v))
      → (r x : ℕ) → Member (r, x) v → (has_cause n (r, x, t) ≡ false) ⊎ Member (r, x) (drop (i + 1) v)
  gone_further i d within at gone = λ r x among. elim (gone r x among) [
    | inl none ↦ inl (changes (r, x, t) ∙ ap (λ h. cond (is_at (cause_order (e.0, e.1, t)) (r, x, t)) false h) none ∙ never (is_at (cause_order (e.0, e.1, t)) (r, x, t)))
    | inr later ↦ next r x (subst (Member (r, x)) (drop-cons v i d within ∙ (λ j. at j ∷ drop (one j) v)) later)
  ]
    where
      never : (b : Bool) → cond b false false ≡ false
      never true = refl
      never false = refl

      one : suc i ≡ i + 1
      one = omega arith

      next : (r x : ℕ) → Member (r, x) (e ∷ drop (i + 1) v) → (has_cause n (r, x, t) ≡ false) ⊎ Member (r, x) (drop (i + 1) v)
      next r x (inl here) = inl (subst (λ (p : ℕ × ℕ). has_cause n (p.0, p.1, t) ≡ false) (sym here) (changes (e.0, e.1, t) ∙ ap (λ b. cond b false (has_cause s (e.0, e.1, t))) (same_here (e.0, e.1, t))))
      next r x (inr later) = inr later

  pub fewer_further : KeepsCauses n s
  fewer_further = λ q has. kept (is_at (cause_order (e.0, e.1, t)) q) (has_cause s q) (sym (changes q) ∙ has)

  pub others_further : KeepsOthers t s n
  others_further = λ q apart has. changes q ∙ ap (λ b. cond b false (has_cause s q)) (other_stamp (e.0, e.1, t) q (same_sym t q.2 ∙ apart)) ∙ has

-- ---- each cause is of what waits

pub none_of : (s : Causes) (w : List Operation) → s.keys ≡ [] → AreOfWaiting s w
none_of s w none = λ q has. absurd (true≢false (sym has ∙ ap (list_any (is_at (cause_order q))) none))

pub fewer_of : (s n : Causes) (w : List Operation) → KeepsCauses n s → AreOfWaiting s w → AreOfWaiting n w
fewer_of s n w fewer of = λ q has. of q (fewer q has)

none_some : (op : Operation) → None ≡ Some op → ⊥
none_some op e = cc

-- one more operation waits
pub added_of : (s n : Causes) (op : Operation) (w : List Operation) → operation_at w (stamp_of op) ≡ None → AddsCauses op s n → AreOfWaiting s w → AreOfWaiting n (insert_by older op w)
added_of s n op w new adds of = λ q has. elim (adds q has) [
  | inl old ↦ was q (of q old)
  | inr more ↦ (op, ap (operation_at (insert_by older op w)) more.0 ∙ new_added op w new, more.1)
]
  where
    was : (q : Cause) → IsOfWaiting w q → IsOfWaiting (insert_by older op w) q
    was q is = elim (cases_Bool (same_stamp (stamp_of op) q.2)) [
      | inl same ↦ absurd (none_some is.0 (sym (ap (operation_at w) (sym (same_stamp_eq (stamp_of op) q.2 same)) ∙ new) ∙ is.1))
      | inr apart ↦ (is.0, other_added op q.2 w apart ∙ is.1, is.2)
    ]

-- its causes were listed, and are no longer
pub unadded_of : (s anew n : Causes) (op : Operation) (w : List Operation) → AddsCauses op s anew → NoneListed n op → KeepsCauses n anew → AreOfWaiting s w → AreOfWaiting n w
unadded_of s anew n op w adds gone fewer of = λ q has. elim (adds q (fewer q has)) [
  | inl old ↦ of q old
  | inr more ↦ absurd (true≢false (sym has ∙ ap (λ t. has_cause n (q.0, q.1, t)) more.0 ∙ gone q.0 q.1 more.1))
]

-- an operation waits no longer, and no cause of it is listed
pub removed_of : (s n : Causes) (t : Lamport) (op : Operation) (w : List Operation) → operation_at w t ≡ Some op → NoneListed n op → KeepsCauses n s → AreOfWaiting s w → AreOfWaiting n (without t w)
removed_of s n t op w found gone fewer of = λ q has. elim (cases_Bool (same_stamp q.2 t)) [
  | inl same ↦ absurd (own q has (same_stamp_eq q.2 t same) (of q (fewer q has)))
  | inr apart ↦ let is = of q (fewer q has) in (is.0, other_without t q.2 w apart ∙ is.1, is.2)
]
  where
    own : (q : Cause) → has_cause n q ≡ true → q.2 ≡ t → IsOfWaiting w q → ⊥
    own q has at is =
        let same : is.0 ≡ op = ap (λ o. unwrap_or o op) (sym is.1 ∙ ap (operation_at w) at ∙ found) in
        let stamp : q.2 ≡ stamp_of op = at ∙ sym (found_stamp w t op found) in
        true≢false (sym has ∙ ap (λ u. has_cause n (q.0, q.1, u)) stamp ∙ gone q.0 q.1 (subst (λ o. Member (q.0, q.1) (version_of o)) same is.2))

-- another cause of an operation that waits is listed in place of one
pub relisted_of : (s n : Causes) (seen missed : Cause)
    → ((q : Cause) → has_cause n q ≡ cond (is_at (cause_order missed) q) true (cond (is_at (cause_order seen) q) false (has_cause s q)))
    → (op : Operation) (w : List Operation) → operation_at w seen.2 ≡ Some op → missed.2 ≡ stamp_of op → Member (missed.0, missed.1) (version_of op) → AreOfWaiting s w → AreOfWaiting n w
relisted_of s n seen missed changes op w found is among of = λ q has. elim (cases_Bool (is_at (cause_order missed) q)) [
  | inl here ↦ subst (IsOfWaiting w) (same_cause missed q here) (op, ap (operation_at w) (is ∙ found_stamp w seen.2 op found) ∙ found, among)
  | inr past ↦ of q (kept (is_at (cause_order seen) q) (has_cause s q) (sym (changes q ∙ ap (λ b. cond b true (cond (is_at (cause_order seen) q) false (has_cause s q))) past) ∙ has))
]
