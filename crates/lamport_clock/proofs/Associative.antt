-- The join of versions is associative and has the empty version as its unit, and it keeps entries in order.
use Rattle.std.proofs.Common.{◌≡◌, ℕ, suc, ◌<◌, ◌≤◌, ◌≢◌, [], ◌∷◌, refl, sym, ap, ◌∙◌, arith, subst, eq-eqb, ne_eqb, ◌++◌, take, drop}
use Rattle.std.proofs.lemmas.List.{take-append-drop}
use Rattle.lamport_clock.specs.declared.stamp.Lamport.{Lamport}
use Rattle.lamport_clock.specs.Versions.{Entries, IsVersionFrom, AreEntriesFrom, entry, put_entry, raise, join_versions}
use Rattle.lamport_clock.proofs.Raises.{by_order, by_bound, put_past, put_at, put_before, raise_seen, raise_new, raise-raise, entry-put_at}

raise_out : (t : Lamport) (u v : Entries) → raise (join_versions u v) t ≡ join_versions (raise u t) v
raise_out t u [] = refl
raise_out t u (e ∷ v) = raise_out t (raise u (record { value = e.1; replica = e.0 })) v ∙ ap (λ z. join_versions z v) (raise-raise u (record { value = e.1; replica = e.0 }) t)

pub entry_raised : (u : Entries) (t : Lamport) → t.value ≤ entry (raise u t) t.replica
entry_raised u t = by_bound _ t.value (entry u t.replica)
    (λ l. let g = ap (λ w. entry w t.replica) (raise_seen u t l) in omega arith)
    (λ l. let g = ap (λ w. entry w t.replica) (raise_new u t l) ∙ entry-put_at u t.replica t.value in omega arith)

-- the lesser of two stamps of one replica is not seen besides the greater
lesser : (u : Entries) (s t : Lamport) → s.replica ≡ t.replica → s.value ≤ t.value → raise (raise u s) t ≡ raise u t
lesser u s t e l = raise-raise u s t ∙ raise_seen (raise u t) s (let g = entry_raised u t in let q : entry (raise u t) s.replica ≡ entry (raise u t) t.replica = ap (entry (raise u t)) e in omega arith)

entry_at : (e : ℕ × ℕ) (v : Entries) (r : ℕ) → e.0 ≡ r → entry (e ∷ v) r ≡ e.1
entry_at e v r q = rw (eq-eqb e.0 r q) refl

entry_off : (e : ℕ × ℕ) (v : Entries) (r : ℕ) → e.0 ≢ r → entry (e ∷ v) r ≡ entry v r
entry_off e v r n = rw (ne_eqb e.0 r n) refl

seen_in : (t : Lamport) (u v : Entries) → t.value ≤ entry v t.replica → join_versions (raise u t) v ≡ join_versions u v
seen_in t u [] h = raise_seen u t (omega arith)
seen_in t u (e ∷ v) h =
    let s : Lamport = record { value = e.1; replica = e.0 } in
    let other : e.0 ≢ t.replica → join_versions (raise u t) (e ∷ v) ≡ join_versions u (e ∷ v) = λ n. ap (λ z. join_versions z v) (raise-raise u t s) ∙ seen_in t (raise u s) v (let q = entry_off e v t.replica n in omega arith) in
    by_order _ e.0 t.replica
    (λ l. other (λ q. absurd (omega arith)))
    (λ q. ap (λ z. join_versions z v) (lesser u t s (sym q) (let g = entry_at e v t.replica q in omega arith)))
    (λ l. other (λ q. absurd (omega arith)))

put_in : (t : Lamport) (u v : Entries) → entry v t.replica < t.value → join_versions u (put_entry t.replica t.value v) ≡ raise (join_versions u v) t
put_in t u [] h = refl
put_in t u (e ∷ v) h =
    let s : Lamport = record { value = e.1; replica = e.0 } in
    by_order _ e.0 t.replica
    (λ l. ap (join_versions u) (put_past e v t.replica t.value l) ∙ put_in t (raise u s) v (let q = entry_off e v t.replica (λ z. absurd (omega arith)) in omega arith))
    (λ q. ap (join_versions u) (put_at e v t.replica t.value q) ∙ ap (λ z. join_versions z v) (sym (lesser u s t q (let g = entry_at e v t.replica q in omega arith))) ∙ sym (raise_out t (raise u s) v))
    (λ l. ap (join_versions u) (put_before e v t.replica t.value l) ∙ ap (λ z. join_versions z v) (raise-raise u t s) ∙ sym (raise_out t (raise u s) v))

raise_in : (t : Lamport) (u v : Entries) → join_versions u (raise v t) ≡ raise (join_versions u v) t
raise_in t u v = by_bound _ t.value (entry v t.replica)
    (λ l. ap (join_versions u) (raise_seen v t l) ∙ sym (raise_out t u v ∙ seen_in t u v l))
    (λ l. ap (join_versions u) (raise_new v t l) ∙ put_in t u v l)

pub joined_assoc : (a b c : Entries) → join_versions (join_versions a b) c ≡ join_versions a (join_versions b c)
joined_assoc a b [] = refl
joined_assoc a b (e ∷ c) = let s : Lamport = record { value = e.1; replica = e.0 } in ap (λ z. join_versions z c) (sym (raise_in s a b)) ∙ joined_assoc a (raise b s) c

pub put_kept : (n r x : ℕ) (v : Entries) → n ≤ r → 0 < x → AreEntriesFrom n v → AreEntriesFrom n (put_entry r x v)
put_kept n r x [] a b h = (a, b, tt)
put_kept n r x (e ∷ v) a b h = by_order _ e.0 r
    (λ l. subst (AreEntriesFrom n) (sym (put_past e v r x l)) (h.0, h.1, put_kept (suc e.0) r x v (omega arith) b h.2))
    (λ l. subst (AreEntriesFrom n) (sym (put_at e v r x l)) (a, b, subst (λ z. AreEntriesFrom (suc z) v) l h.2))
    (λ l. subst (AreEntriesFrom n) (sym (put_before e v r x l)) (a, b, (omega arith, h.1, h.2)))

pub raise_kept : (v : Entries) (t : Lamport) → AreEntriesFrom 0 v → AreEntriesFrom 0 (raise v t)
raise_kept v t h = by_bound _ t.value (entry v t.replica)
    (λ l. subst (AreEntriesFrom 0) (sym (raise_seen v t l)) h)
    (λ l. subst (AreEntriesFrom 0) (sym (raise_new v t l)) (put_kept 0 t.replica t.value v (omega arith) (omega arith) h))

pub joined_kept : (u v : Entries) → AreEntriesFrom 0 u → AreEntriesFrom 0 (join_versions u v)
joined_kept u [] h = h
joined_kept u (e ∷ v) h = let s : Lamport = record { value = e.1; replica = e.0 } in joined_kept (raise u s) v (raise_kept u s h)

pub raise_past : (d : ℕ × ℕ) (u : Entries) (t : Lamport) → d.0 < t.replica → raise (d ∷ u) t ≡ d ∷ raise u t
raise_past d u t l =
    let q = entry_off d u t.replica (λ z. absurd (omega arith)) in
    by_bound _ t.value (entry u t.replica)
    (λ h. raise_seen (d ∷ u) t (omega arith) ∙ ap (λ z. d ∷ z) (sym (raise_seen u t h)))
    (λ h. raise_new (d ∷ u) t (omega arith) ∙ put_past d u t.replica t.value l ∙ ap (λ z. d ∷ z) (sym (raise_new u t h)))

pub joined_past : (n : ℕ) (d : ℕ × ℕ) (u v : Entries) → AreEntriesFrom n v → d.0 < n → join_versions (d ∷ u) v ≡ d ∷ join_versions u v
joined_past n d u [] h l = refl
joined_past n d u (e ∷ v) h l = let s : Lamport = record { value = e.1; replica = e.0 } in let g = h.0 in ap (λ z. join_versions z v) (raise_past d u s (omega arith)) ∙ joined_past (suc e.0) d (raise u s) v h.2 (omega arith)

pub joined_left : (n : ℕ) (v : Entries) → AreEntriesFrom n v → join_versions [] v ≡ v
joined_left n [] h = refl
joined_left n (e ∷ v) h = let s : Lamport = record { value = e.1; replica = e.0 } in let g = h.1 in
    ap (λ z. join_versions z v) (raise_new [] s (omega arith)) ∙ joined_past (suc e.0) e [] v h.2 (omega arith) ∙ ap (λ z. e ∷ z) (joined_left (suc e.0) v h.2)

pub are_entries : (n : ℕ) (v : Entries) → IsVersionFrom n v → AreEntriesFrom n v
are_entries n [] h = tt
are_entries n (e ∷ v) h = (h.0, h.2, are_entries (suc e.0) v h.4)

-- a version is in order
pub in_order : (v : Entries) → IsVersionFrom 0 v → join_versions [] v ≡ v
in_order v h = joined_left 0 v (are_entries 0 v h)

-- no entry is below the least replica
pub none_below : (n : ℕ) (v : Entries) (r : ℕ) → AreEntriesFrom n v → r < n → entry v r ≡ 0
none_below n [] r i l = refl
none_below n (e ∷ v) r i l = let a = i.0 in let t = ne_eqb e.0 r (λ q. omega arith) in rw t (none_below (suc e.0) v r i.2 (omega arith))

-- ---- entries taken in two halves

pub joined-append : (u xs ys : Entries) → join_versions u (xs ++ ys) ≡ join_versions (join_versions u xs) ys
joined-append u [] ys = refl
joined-append u (x ∷ xs) ys = joined-append (raise u (record { value = x.1; replica = x.0 })) xs ys

pub taken_twice : (k : ℕ) (es : Entries) → join_versions (join_versions [] (take k es)) (join_versions [] (drop k es)) ≡ join_versions [] es
taken_twice k es =
    sym (joined_assoc (join_versions [] (take k es)) [] (drop k es)) ∙ sym (joined-append [] (take k es) (drop k es)) ∙ ap (join_versions []) (take-append-drop k es)
