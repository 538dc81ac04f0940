-- What each entry of a version says, and how many there are.
use Rattle.std.proofs.Common.{ℕ, [], ◌∷◌, true, false, cond, eqb, ltb, ◌≡◌, ◌<◌, ◌⊎◌, subst, inl, inr, arith, suc, ◌≤◌, refl, sym, ◌∙◌, ap, length}
use Rattle.std.specs.List.{AllByRecursion}
use Rattle.std.proofs.lemmas.Bool.{cases_Bool, eqb-true, cases_lt, eq-eqb, ne_eqb, lt-ltb, le-ltb}
use Rattle.lamport_clock.specs.Versions.{Entries, put_entry, sees, raise, entry, AreEntriesFrom, IsVersionFrom, IsVersion}
use Rattle.lamport_clock.specs.declared.stamp.Lamport.{Lamport}
use Rattle.lamport_clock.proofs.Associative.{none_below}
use Rattle.lamport_clock.proofs.Raises.{by_order, raise_new, by_bound, raise_seen}
use Rattle.lamport_clock.proofs.Joining.{entry_below}

pub each_put : (P : ℕ × ℕ → Type 0) (r x : ℕ) (v : Entries) → P (r, x) → AllByRecursion P v → AllByRecursion P (put_entry r x v)
each_put P r x [] p e = (p, tt)
each_put P r x (d ∷ v) p e = elim (ltb d.0 r) as (λ b. AllByRecursion P (cond b (d ∷ put_entry r x v) (cond (eqb d.0 r) ((r, x) ∷ v) ((r, x) ∷ d ∷ v)))) [
  | true ↦ (e.0, each_put P r x v p e.1)
  | false ↦ elim (eqb d.0 r) as (λ b. AllByRecursion P (cond b ((r, x) ∷ v) ((r, x) ∷ d ∷ v))) [ true ↦ (p, e.1) | false ↦ (p, e) ]
]

pub each_raise : (P : ℕ × ℕ → Type 0) (v : Entries) (t : Lamport) → P (t.replica, t.value) → AllByRecursion P v → AllByRecursion P (raise v t)
each_raise P v t p e = elim (sees v t) as (λ b. AllByRecursion P (cond b v (put_entry t.replica t.value v))) [ true ↦ e | false ↦ each_put P t.replica t.value v p e ]

-- what holds of each entry holds of what the version says of r
pub each_entry : (P : ℕ × ℕ → Type 0) (v : Entries) (r : ℕ) → AllByRecursion P v → 0 < entry v r → P (r, entry v r)
each_entry P [] r e h = absurd (omega arith)
each_entry P (x ∷ v) r e h = go (cases_Bool (eqb x.0 r)) (each_entry P v r e.1)
  where
    go : (eqb x.0 r ≡ true) ⊎ (eqb x.0 r ≡ false) → (0 < entry v r → P (r, entry v r)) → P (r, entry (x ∷ v) r)
    go (inl q) f = let z : x.0 ≡ r = eqb-true x.0 r q in rw q (subst (λ (y : ℕ). P (y, x.1)) z e.0)
    go (inr q) f = rw q (f (rw q at h))

pub entries_same : (n : ℕ) (u v : Entries) → AreEntriesFrom n u → AreEntriesFrom n v → ((r : ℕ) → entry u r ≡ entry v r) → u ≡ v
entries_same n [] [] i j f = refl
entries_same n [] (e ∷ v) i j f = let t : eqb e.0 e.0 ≡ true = eq-eqb e.0 e.0 refl in let z : ◌≡◌ {A = ℕ} 0 e.1 = rw t at (f e.0) in let p = j.1 in absurd (omega arith)
entries_same n (d ∷ u) [] i j f = let t : eqb d.0 d.0 ≡ true = eq-eqb d.0 d.0 refl in let z : d.1 ≡ 0 = rw t at (f d.0) in let p = i.1 in absurd (omega arith)
entries_same n (d ∷ u) (e ∷ v) i j f = go (cases_lt d.0 e.0) (cases_lt e.0 d.0) (λ m a b c. entries_same m u v a b c)
  where
    at_d : entry (d ∷ u) d.0 ≡ d.1
    at_d = let t : eqb d.0 d.0 ≡ true = eq-eqb d.0 d.0 refl in rw t refl

    at_e : entry (e ∷ v) e.0 ≡ e.1
    at_e = let t : eqb e.0 e.0 ≡ true = eq-eqb e.0 e.0 refl in rw t refl

    tails : d.0 ≡ e.0 → (r : ℕ) → entry u r ≡ entry v r
    tails q r = elim (cases_lt d.0 r) [
      | inl l ↦ (let x = ne_eqb d.0 r (λ s. omega arith) in let y = ne_eqb e.0 r (λ s. omega arith) in let z : entry u r ≡ entry v r = rw (x, y) at (f r) in z)
      | inr l ↦ none_below (suc d.0) u r i.2 (omega arith) ∙ sym (none_below (suc e.0) v r j.2 (omega arith))
    ]

    go : (d.0 < e.0) ⊎ (e.0 ≤ d.0) → (e.0 < d.0) ⊎ (d.0 ≤ e.0) → ((m : ℕ) → AreEntriesFrom m u → AreEntriesFrom m v → ((r : ℕ) → entry u r ≡ entry v r) → u ≡ v) → d ∷ u ≡ e ∷ v
    go (inl l) m ih = let z = none_below (suc d.0) (e ∷ v) d.0 (omega arith, j.1, j.2) (omega arith) in let y = f d.0 in let x = at_d in let p = i.1 in absurd (omega arith)
    go (inr l) (inl m) ih = let z = none_below (suc e.0) (d ∷ u) e.0 (omega arith, i.1, i.2) (omega arith) in let y = f e.0 in let x = at_e in let p = j.1 in absurd (omega arith)
    go (inr l) (inr m) ih =
        let q : d.0 ≡ e.0 = omega arith in
        let w : d.1 ≡ e.1 = sym at_d ∙ f d.0 ∙ ap (entry (e ∷ v)) q ∙ at_e in
        let s : u ≡ v = ih (suc d.0) i.2 (subst (λ (m : ℕ). AreEntriesFrom (suc m) v) (sym q) j.2) (tails q) in
        λ k. (q k, w k) ∷ s k

-- ---- how many entries a version has with one more

pub length-put_new : (n : ℕ) (v : Entries) (r x : ℕ) → IsVersionFrom n v → entry v r ≡ 0 → length (put_entry r x v) ≡ suc (length v)
length-put_new n [] r x h z = refl
length-put_new n (e ∷ v) r x h z =
    let positive = h.2 in
    by_order _ e.0 r
    (λ l. let ne : eqb e.0 r ≡ false = ne_eqb e.0 r (λ q. absurd (omega arith)) in
    let rest : entry v r ≡ 0 = sym (ap (λ b. cond b e.1 (entry v r)) ne) ∙ z in
    rw (lt-ltb e.0 r l) (ap suc (length-put_new (suc e.0) v r x h.4 rest)))
    (λ q. let same : e.1 ≡ 0 = sym (ap (λ b. cond b e.1 (entry v r)) (eq-eqb e.0 r q)) ∙ z in absurd (omega arith))
    (λ g. let ne : eqb e.0 r ≡ false = ne_eqb e.0 r (λ q. absurd (omega arith)) in
    rw (le-ltb e.0 r (omega arith), ne) refl)

pub length-put_old : (n : ℕ) (v : Entries) (r x : ℕ) → IsVersionFrom n v → 0 < entry v r → length (put_entry r x v) ≡ length v
length-put_old n [] r x h z = absurd (omega arith)
length-put_old n (e ∷ v) r x h z =
    by_order _ e.0 r
    (λ l. let ne : eqb e.0 r ≡ false = ne_eqb e.0 r (λ q. absurd (omega arith)) in
    let rest : 0 < entry v r = subst (λ k. 0 < k) (ap (λ b. cond b e.1 (entry v r)) ne) z in
    rw (lt-ltb e.0 r l) (ap suc (length-put_old (suc e.0) v r x h.4 rest)))
    (λ q. rw (le-ltb e.0 r (omega arith), eq-eqb e.0 r q) refl)
    (λ g. let none : entry (e ∷ v) r ≡ 0 = entry_below e.0 (e ∷ v) r (omega arith, h.1, h.2, h.3, h.4) g in absurd (omega arith))

pub length-raise_new : (u : Entries) (e : ℕ × ℕ) → IsVersion u → 0 < e.1 → entry u e.0 ≡ 0 → length (raise u (record { value = e.1; replica = e.0 })) ≡ suc (length u)
length-raise_new u e h p z = ap length (raise_new u (record { value = e.1; replica = e.0 }) (omega arith)) ∙ length-put_new 0 u e.0 e.1 h z

pub length-raise_old : (u : Entries) (e : ℕ × ℕ) → IsVersion u → 0 < entry u e.0 → length (raise u (record { value = e.1; replica = e.0 })) ≡ length u
length-raise_old u e h p = by_bound _ e.1 (entry u e.0)
    (λ l. ap length (raise_seen u (record { value = e.1; replica = e.0 }) l))
    (λ l. ap length (raise_new u (record { value = e.1; replica = e.0 }) l) ∙ length-put_old 0 u e.0 e.1 h p)
