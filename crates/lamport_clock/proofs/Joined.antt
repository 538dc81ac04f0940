-- What a join of two versions is.
use Rattle.std.proofs.Common.{◌≡◌, ℕ, suc, ◌≤◌, ◌≢◌, max, [], ◌∷◌, refl, sym, ap, ◌∙◌, arith, true, false, cond, eqb, ltb, leb, ne_eqb, eq-eqb, inl, inr, is_none, subst, ◌⊎◌}
use Rattle.std.proofs.lemmas.Bool.{le-leb, lt-leb, le-ltb, lt-ltb, leb-true, and_parts, and_from, cases_eq, cases_Bool, eqb-true, eqb-false}
use Rattle.lamport_clock.specs.declared.stamp.Lamport.{Lamport}
use Rattle.lamport_clock.specs.Versions.{Entries, IsVersionFrom, IsVersion, entry, within, put_entry, raise, first_unseen, join_versions}
use Rattle.lamport_clock.proofs.Raises.{by_bound, raise_seen, raise_new, entry-put_at, entry-put_off}
use Rattle.lamport_clock.proofs.Entries.{IsVersion-put}
use Rattle.lamport_clock.proofs.Joining.{entry_below}

pub entry-raise_at : (u : Entries) (t : Lamport) → entry (raise u t) t.replica ≡ max (entry u t.replica) t.value
entry-raise_at u t = by_bound _ t.value (entry u t.replica)
    (λ l. ap (λ w. entry w t.replica) (raise_seen u t l) ∙ omega arith)
    (λ l. ap (λ w. entry w t.replica) (raise_new u t l) ∙ entry-put_at u t.replica t.value ∙ omega arith)

pub entry-raise_off : (u : Entries) (t : Lamport) (q : ℕ) → q ≢ t.replica → entry (raise u t) q ≡ entry u q
entry-raise_off u t q n = by_bound _ t.value (entry u t.replica)
    (λ l. ap (λ w. entry w q) (raise_seen u t l))
    (λ l. ap (λ w. entry w q) (raise_new u t l) ∙ entry-put_off u t.replica t.value q n)

-- for each replica the greater value
pub entry-joined : (n : ℕ) (u v : Entries) (r : ℕ) → IsVersionFrom n v → entry (join_versions u v) r ≡ max (entry u r) (entry v r)
entry-joined n u [] r h = omega arith
entry-joined n u (e ∷ v) r h =
    let t : Lamport = record { value = e.1; replica = e.0 } in
    let ih = entry-joined (suc e.0) (raise u t) v r h.4 in
    elim (cases_eq e.0 r) [
      | inl q ↦
          let at : entry (raise u t) r ≡ max (entry u r) e.1 = rw (← q) (entry-raise_at u t) in
          let none : entry v r ≡ 0 = entry_below (suc e.0) v r h.4 (omega arith) in
          rw (eq-eqb e.0 r q) (omega arith)
      | inr n ↦
          let off : entry (raise u t) r ≡ entry u r = entry-raise_off u t r (λ q. n (sym q)) in
          rw (ne_eqb e.0 r n) (omega arith)
    ]

-- ---- within

-- each entry of a version that lies within another is at most the other's
pub entry_within : (v u : Entries) (r : ℕ) → within v u ≡ true → entry v r ≤ entry u r
entry_within [] u r w = omega arith
entry_within (e ∷ v) u r w =
    let k = and_parts (leb e.1 (entry u e.0)) (within v u) w in
    elim (cases_eq e.0 r) [
      | inl q ↦ rw (eq-eqb e.0 r q) (let l : e.1 ≤ entry u e.0 = leb-true e.1 (entry u e.0) k.0 in rw (← q) l)
      | inr n ↦ rw (ne_eqb e.0 r n) (entry_within v u r k.1)
    ]

pub within_by_entries : (n : ℕ) (v u : Entries) → IsVersionFrom n v → ((r : ℕ) → entry v r ≤ entry u r) → within v u ≡ true
within_by_entries n [] u h f = refl
within_by_entries n (e ∷ v) u h f =
    let same : entry (e ∷ v) e.0 ≡ e.1 = rw (eq-eqb e.0 e.0 refl) refl in
    let first : e.1 ≤ entry u e.0 = (let k = f e.0 in omega arith) in
    and_from (leb e.1 (entry u e.0)) (within v u) (le-leb e.1 (entry u e.0) first)
    (within_by_entries (suc e.0) v u h.4 (λ r. elim (cases_eq e.0 r) [
      | inl q ↦ let none : entry v r ≡ 0 = entry_below (suc e.0) v r h.4 (omega arith) in omega arith
      | inr n ↦ let off : entry (e ∷ v) r ≡ entry v r = rw (ne_eqb e.0 r n) refl in let k = f r in omega arith
    ]))

-- ---- a join is the least that both are within

pub within_join : (u v : Entries) → IsVersion u → IsVersion v → (within u (join_versions u v) ≡ true) × (within v (join_versions u v) ≡ true)
within_join u v a b = (
  within_by_entries 0 u (join_versions u v) a (λ r. let e = entry-joined 0 u v r b in omega arith),
  within_by_entries 0 v (join_versions u v) b (λ r. let e = entry-joined 0 u v r b in omega arith),
)

within-put : (v u : Entries) (r x : ℕ) → within v u ≡ true → x ≤ entry u r → within (put_entry r x v) u ≡ true
within-put [] u r x w l = and_from _ _ (le-leb x (entry u r) l) refl
within-put (e ∷ v) u r x w l =
    let k = and_parts (leb e.1 (entry u e.0)) (within v u) w in
    let rest = within-put v u r x k.1 l in
    let first = le-leb x (entry u r) l in
    elim (ltb e.0 r) as (λ b. within (cond b (e ∷ put_entry r x v) (cond (eqb e.0 r) ((r, x) ∷ v) ((r, x) ∷ e ∷ v))) u ≡ true) [
      | true ↦ and_from _ _ k.0 rest
      | false ↦ elim (eqb e.0 r) as (λ b. within (cond b ((r, x) ∷ v) ((r, x) ∷ e ∷ v)) u ≡ true) [
        | true ↦ and_from _ _ first k.1
        | false ↦ and_from _ _ first w
      ]
    ]

pub joined_within : (u v w : Entries) → within u w ≡ true → within v w ≡ true → within (join_versions u v) w ≡ true
joined_within u [] w a b = a
joined_within u (e ∷ v) w a b =
    let t : Lamport = record { value = e.1; replica = e.0 } in
    let k = and_parts (leb e.1 (entry w e.0)) (within v w) b in
    let l : e.1 ≤ entry w e.0 = leb-true e.1 (entry w e.0) k.0 in
    joined_within (raise u t) v w
    (by_bound _ e.1 (entry u e.0)
    (λ s. rw (raise_seen u t s) a)
    (λ s. rw (raise_new u t s) (within-put u w e.0 e.1 a l))) k.1

pub none_unseen : (u v : Entries) → is_none (first_unseen u v) ≡ within v u
none_unseen u [] = refl
none_unseen u (e ∷ v) =
    let ih = none_unseen u v in
    by_bound _ e.1 (entry u e.0)
    (λ l. rw (le-ltb (entry u e.0) e.1 l, le-leb e.1 (entry u e.0) l) ih)
    (λ l. rw (lt-ltb (entry u e.0) e.1 l, lt-leb e.1 (entry u e.0) l) refl)

-- what is seen already changes nothing
pub joined_seen : (u v : Entries) → within v u ≡ true → join_versions u v ≡ u
joined_seen u [] w = refl
joined_seen u (e ∷ v) w =
    let k = and_parts (leb e.1 (entry u e.0)) (within v u) w in
    ap (λ z. join_versions z v) (raise_seen u (record { value = e.1; replica = e.0 }) (leb-true e.1 (entry u e.0) k.0)) ∙ joined_seen u v k.1

pub IsVersion-joined : (n : ℕ) (u v : Entries) → IsVersion u → IsVersionFrom n v → IsVersion (join_versions u v)
IsVersion-joined n u [] a b = a
IsVersion-joined n u (e ∷ v) a b =
    let t : Lamport = record { value = e.1; replica = e.0 } in
    IsVersion-joined (suc e.0) (raise u t) v
    (by_bound _ e.1 (entry u e.0)
    (λ l. subst IsVersion (sym (raise_seen u t l)) a)
    (λ l. subst IsVersion (sym (raise_new u t l)) (IsVersion-put u e.0 e.1 b.1 b.2 b.3 a))) b.4

-- a join of lists that are two versions' entries
pub joined_version : (m a b u v : Entries) → m ≡ join_versions a b → a ≡ u → b ≡ v → IsVersion u → IsVersion v → IsVersion m
joined_version m a b u v e p q x y = subst IsVersion (sym (e ∙ ap (λ z. join_versions z b) p ∙ ap (join_versions u) q)) (IsVersion-joined 0 u v x y)

pub joined_greater : (m a b u v s t : Entries) → m ≡ join_versions a b → a ≡ u → b ≡ v → u ≡ s → v ≡ t → IsVersion v → (r : ℕ) → entry m r ≡ max (entry s r) (entry t r)
joined_greater m a b u v s t e p q f g y r = ap (λ z. entry z r) (e ∙ ap (λ z. join_versions z b) p ∙ ap (join_versions u) q) ∙ entry-joined 0 u v r y ∙ ap (λ z. max (entry z r) (entry v r)) f ∙ ap (λ z. max (entry s r) (entry z r)) g

pub within_trans : (u v w : Entries) → within u v ≡ true → within v w ≡ true → within u w ≡ true
within_trans [] v w a b = refl
within_trans (e ∷ u) v w a b =
    let k = and_parts (leb e.1 (entry v e.0)) (within u v) a in
    let x = leb-true e.1 (entry v e.0) k.0 in
    let y = entry_within v w e.0 b in
    let z : leb e.1 (entry w e.0) ≡ true = le-leb e.1 (entry w e.0) (omega arith) in
    rw z (within_trans u v w k.1 b)

pub entry_raise : (v : Entries) (t : Lamport) (r : ℕ) → entry (raise v t) r ≡ cond (eqb t.replica r) (max (entry v r) t.value) (entry v r)
entry_raise v t r = go (cases_Bool (eqb t.replica r))
  where
    go : (eqb t.replica r ≡ true) ⊎ (eqb t.replica r ≡ false) → entry (raise v t) r ≡ cond (eqb t.replica r) (max (entry v r) t.value) (entry v r)
    go (inl e) = rw e (subst (λ (q : ℕ). entry (raise v t) q ≡ max (entry v q) t.value) (eqb-true t.replica r e) (entry-raise_at v t))
    go (inr e) = rw e (entry-raise_off v t r (λ q. eqb-false t.replica r e (sym q)))
