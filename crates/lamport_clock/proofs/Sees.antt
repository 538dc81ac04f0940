-- What versions see that take stamps in, are joined, or lie within one another.
use Rattle.std.proofs.Common.{◌≡◌, ℕ, suc, ◌<◌, ◌≤◌, true, leb, [], ◌∷◌, refl, ap, ◌∙◌, arith, subst, inl, inr, eq-eqb, ne_eqb, false}
use Rattle.std.proofs.lemmas.Bool.{and_from, cases_eq, le-leb, leb-true, cases_Bool}
use Rattle.std.proofs.lemmas.Bool.Decides.{nat_tests}
use Rattle.lamport_clock.specs.declared.stamp.Lamport.{Lamport}
use Rattle.lamport_clock.specs.Versions.{Entries, AreEntriesFrom, entry, put_entry, raise, join_versions, sees, within}
use Rattle.lamport_clock.proofs.Raises.{by_bound, by_order, raise_seen, raise_new, entry-put_at, entry-put_off}
use Rattle.lamport_clock.proofs.Associative.{entry_raised, none_below}
use Rattle.lamport_clock.proofs.Joined.{entry_within}
use Rattle.lamport_clock.specs.Stamps.{later}
use Rattle.lamport_clock.proofs.Later.{one_way}

-- an entry never falls
raise_up : (v : Entries) (t : Lamport) (r : ℕ) → entry v r ≤ entry (raise v t) r
raise_up v t r = by_bound _ t.value (entry v t.replica)
    (λ h. let e = ap (λ (w : Entries). entry w r) (raise_seen v t h) in omega arith)
    (λ h. let e = ap (λ (w : Entries). entry w r) (raise_new v t h) in by_order _ r t.replica
    (λ k. let o = entry-put_off v t.replica t.value r (λ q. absurd (omega arith)) in omega arith)
    (λ k. let a = ap (entry (put_entry t.replica t.value v)) k ∙ entry-put_at v t.replica t.value in let b = ap (entry v) k in omega arith)
    (λ k. let o = entry-put_off v t.replica t.value r (λ q. absurd (omega arith)) in omega arith))

-- the stamp that is taken in is seen
pub raise_sees : (v : Entries) (t : Lamport) → sees (raise v t) t ≡ true
raise_sees v t = le-leb t.value (entry (raise v t) t.replica) (entry_raised v t)

-- what is seen stays seen
pub sees_raise : (v : Entries) (s t : Lamport) → sees v t ≡ true → sees (raise v s) t ≡ true
sees_raise v s t h = le-leb t.value (entry (raise v s) t.replica) (let a = leb-true t.value (entry v t.replica) h in let b = raise_up v s t.replica in omega arith)

-- a join has what both have
joined_up : (u v : Entries) (r : ℕ) → entry u r ≤ entry (join_versions u v) r
joined_up u [] r = omega arith
joined_up u (e ∷ v) r =
    let s : Lamport = record { value = e.1; replica = e.0 } in
    let a = raise_up u s r in let b = joined_up (raise u s) v r in omega arith

joined_on : (u v : Entries) (r : ℕ) → entry v r ≤ entry (join_versions u v) r
joined_on u [] r = omega arith
joined_on u (e ∷ v) r =
    let s : Lamport = record { value = e.1; replica = e.0 } in
    let ih = joined_on (raise u s) v r in
    by_order _ e.0 r
    (λ k. let o : entry (e ∷ v) r ≡ entry v r = other k in omega arith)
    (λ k. let o : entry (e ∷ v) r ≡ e.1 = same k in
    let a : e.1 ≤ entry (raise u s) r = subst (λ (q : ℕ). e.1 ≤ entry (raise u s) q) k (entry_raised u s) in
    let b = joined_up (raise u s) v r in omega arith)
    (λ k. let o : entry (e ∷ v) r ≡ entry v r = above k in omega arith)
  where
    other : e.0 < r → entry (e ∷ v) r ≡ entry v r
    other k = grind (arith, nat_tests)

    same : e.0 ≡ r → entry (e ∷ v) r ≡ e.1
    same k = grind (arith, nat_tests)

    above : r < e.0 → entry (e ∷ v) r ≡ entry v r
    above k = grind (arith, nat_tests)

-- what either sees, both together see
pub sees_joined : (u v : Entries) (t : Lamport) → (sees u t ≡ true → sees (join_versions u v) t ≡ true) × (sees v t ≡ true → sees (join_versions u v) t ≡ true)
sees_joined u v t = (
  (λ h. le-leb t.value (entry (join_versions u v) t.replica) (let a = leb-true t.value (entry u t.replica) h in let b = joined_up u v t.replica in omega arith)),
  (λ h. le-leb t.value (entry (join_versions u v) t.replica) (let a = leb-true t.value (entry v t.replica) h in let b = joined_on u v t.replica in omega arith)),
)

-- what is seen by a version is seen by one that it lies within
pub sees_within : (u v : Entries) (t : Lamport) → within u v ≡ true → sees u t ≡ true → sees v t ≡ true
sees_within u v t w s = le-leb t.value (entry v t.replica) (let a = leb-true t.value (entry u t.replica) s in let b = entry_within u v t.replica w in omega arith)

-- a version lies within one that sees what it sees
pub within_by_seen : (n : ℕ) (u v : Entries) → AreEntriesFrom n u → ((t : Lamport) → sees u t ≡ true → sees v t ≡ true) → within u v ≡ true
within_by_seen n [] v h f = refl
within_by_seen n (e ∷ u) v h f = and_from (leb e.1 (entry v e.0)) (within u v) first (within_by_seen (suc e.0) u v h.2 rest)
  where
    same : entry (e ∷ u) e.0 ≡ e.1
    same = rw (eq-eqb e.0 e.0 refl) refl

    first : leb e.1 (entry v e.0) ≡ true
    first = f (record { value = e.1; replica = e.0 }) (le-leb e.1 (entry (e ∷ u) e.0) (let s = same in omega arith))

    rest : (t : Lamport) → sees u t ≡ true → sees v t ≡ true
    rest t s = elim (cases_eq e.0 t.replica) [
      | inl q ↦ (let none : entry u t.replica ≡ 0 = none_below (suc e.0) u t.replica h.2 (omega arith) in
          let low = leb-true t.value (entry u t.replica) s in
          le-leb t.value (entry v t.replica) (omega arith))
      | inr n ↦ (let off : entry (e ∷ u) t.replica ≡ entry u t.replica = rw (ne_eqb e.0 t.replica n) refl in
          f t (ap (leb t.value) off ∙ s))
    ]

-- what is passed is not seen, so a test 'unseen and later' passes the same
pub passed_unseen : (v : Entries) (t u : Lamport) → ((w : Lamport) → sees v w ≡ true → later t w ≡ true) → later u t ≡ true → sees v u ≡ false
passed_unseen v t u above l = elim (cases_Bool (sees v u))
    [ inl s ↦ (let g = above u s in let h = one_way t u g in cc) | inr s ↦ s ]
