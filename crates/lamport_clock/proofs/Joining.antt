-- A walk along two versions side by side.
use Rattle.std.proofs.Common.{◌≡◌, ℕ, suc, ◌+◌, ◌<◌, ◌≤◌, max, [], ◌∷◌, ◌++◌, length, take, drop, refl, sym, ap, ◌∙◌, subst, arith, true, false, cond, eqb, ltb, leb, Some, ne_eqb, eq-eqb, Bool, zero, get_or, set, append_assoc}
use Rattle.std.proofs.lemmas.List.{drop_more, take_more_set, drop-set-lt}
use Rattle.std.proofs.lemmas.Bool.{lt-ltb, le-ltb, lt-leb, le-leb, ltb-true}
use Rattle.lamport_clock.specs.Versions.{Entries, IsVersionFrom, entry, put_entry, raise, place_of, front, behind, first_unseen, join_versions}
use Rattle.lamport_clock.proofs.Raises.{by_order, by_bound}
use Rattle.lamport_clock.proofs.Associative.{none_below, are_entries, raise_past, joined_past}

pub entry_below : (n : ℕ) (v : Entries) (r : ℕ) → IsVersionFrom n v → r < n → entry v r ≡ 0
entry_below n v r h l = none_below n v r (are_entries n v h) l

-- ---- what one version has of the entries of another

-- an entry stands at its replica's place
pub entry_by_place : (n : ℕ) (v : Entries) (r : ℕ) → IsVersionFrom n v → entry v r ≡ front (drop (place_of v r) v) r
entry_by_place n [] r h = refl
entry_by_place n (e ∷ v) r h =
    let R : ℕ → ℕ = λ k. front (drop k (e ∷ v)) r in
    let at : (b : Bool) → ltb e.0 r ≡ b → R (cond b (suc (place_of v r)) 0) ≡ R (place_of (e ∷ v) r) = λ b t. ap (λ c. R (cond c (suc (place_of v r)) 0)) (sym t) in
    by_order _ e.0 r
    (λ l. let ne : eqb e.0 r ≡ false = ne_eqb e.0 r (λ q. absurd (omega arith)) in
    ap (λ b. cond b e.1 (entry v r)) ne ∙ entry_by_place (suc e.0) v r h.4 ∙ at true (lt-ltb e.0 r l))
    (λ q. let t : eqb e.0 r ≡ true = eq-eqb e.0 r q in
    ap (λ b. cond b e.1 (entry v r)) t ∙ sym (ap (λ b. cond b e.1 0) t) ∙ at false (le-ltb e.0 r (omega arith)))
    (λ g. let ne : eqb e.0 r ≡ false = ne_eqb e.0 r (λ q. absurd (omega arith)) in
    ap (λ b. cond b e.1 (entry v r)) ne ∙ entry_below (suc e.0) v r h.4 (omega arith) ∙ sym (ap (λ b. cond b e.1 0) ne) ∙ at false (le-ltb e.0 r (omega arith)))

-- the entries before a replica's place are of no later one
entry_later : (v : Entries) (r q : ℕ) → r < q → entry v q ≡ entry (drop (place_of v r) v) q
entry_later [] r q l = refl
entry_later (e ∷ v) r q l =
    elim (ltb e.0 r) as (λ b. ltb e.0 r ≡ b → entry (e ∷ v) q ≡ entry (drop (cond b (suc (place_of v r)) 0) (e ∷ v)) q) [
      | true ↦ λ t. let k = ltb-true e.0 r t in
          let ne : eqb e.0 q ≡ false = ne_eqb e.0 q (λ p. absurd (omega arith)) in
          rw ne (entry_later v r q l)
      | false ↦ λ t. refl
    ] refl

pub unseen_later : (u v : Entries) (r n : ℕ) → r < n → IsVersionFrom n v → first_unseen u v ≡ first_unseen (drop (place_of u r) u) v
unseen_later u [] r n l h = refl
unseen_later u (e ∷ v) r n l h =
    let a = h.0 in
    rw (entry_later u r e.0 (omega arith), unseen_later u v r (suc e.0) (omega arith) h.4) refl

-- ---- what both have

raise_here : (d : ℕ × ℕ) (u : Entries) (e : ℕ × ℕ) → d.0 ≡ e.0 → raise (d ∷ u) (record { value = e.1; replica = e.0 }) ≡ (e.0, max d.1 e.1) ∷ u
raise_here d u e q =
    let t : eqb d.0 e.0 ≡ true = eq-eqb d.0 e.0 q in
    let f : ltb d.0 e.0 ≡ false = le-ltb d.0 e.0 (omega arith) in
    by_bound _ e.1 d.1
    (λ l. ap (λ b. cond (leb e.1 (cond b d.1 (entry u e.0))) (d ∷ u) (put_entry e.0 e.1 (d ∷ u))) t ∙ rw (le-leb e.1 d.1 l) (ap (λ x. (x, d.1) ∷ u) q ∙ ap (λ x. (e.0, x) ∷ u) (omega arith)))
    (λ l. ap (λ b. cond (leb e.1 (cond b d.1 (entry u e.0))) (d ∷ u) (put_entry e.0 e.1 (d ∷ u))) t ∙ rw (lt-leb e.1 d.1 l, f, t) (ap (λ x. (e.0, x) ∷ u) (omega arith)))

raise_before : (n : ℕ) (u : Entries) (e : ℕ × ℕ) → IsVersionFrom n u → e.0 < n → 0 < e.1 → raise u (record { value = e.1; replica = e.0 }) ≡ e ∷ u
raise_before n [] e h l p = rw (lt-leb e.1 0 p) refl
raise_before n (d ∷ u) e h l p =
    let a = h.0 in
    let ne : eqb d.0 e.0 ≡ false = ne_eqb d.0 e.0 (λ q. absurd (omega arith)) in
    let none : entry (d ∷ u) e.0 ≡ 0 = entry_below n (d ∷ u) e.0 h l in
    ap (λ x. cond (leb e.1 x) (d ∷ u) (put_entry e.0 e.1 (d ∷ u))) none ∙ rw (lt-leb e.1 0 p, le-ltb d.0 e.0 (omega arith), ne) refl

-- what both have, up to the second's first entry and after it
pub joined_along : (n m : ℕ) (u v : Entries) (e : ℕ × ℕ) → IsVersionFrom n u → IsVersionFrom m (e ∷ v)
    → join_versions u (e ∷ v) ≡ take (place_of u e.0) u ++ (e.0, max (front (drop (place_of u e.0) u) e.0) e.1) ∷ join_versions (behind (drop (place_of u e.0) u) e.0) v
joined_along n m [] v e hu hv = ap (λ w. join_versions w v) (raise_before (suc e.0) [] e tt (omega arith) hv.2) ∙ joined_past (suc e.0) e [] v (are_entries (suc e.0) v hv.4) (omega arith) ∙ ap (λ x. (e.0, x) ∷ join_versions [] v) (omega arith)
joined_along n m (d ∷ u) v e hu hv =
    let R : ℕ → Entries = λ k. take k (d ∷ u) ++ (e.0, max (front (drop k (d ∷ u)) e.0) e.1) ∷ join_versions (behind (drop k (d ∷ u)) e.0) v in
    let at : (b : Bool) → ltb d.0 e.0 ≡ b → R (cond b (suc (place_of u e.0)) 0) ≡ R (place_of (d ∷ u) e.0) = λ b t. ap (λ c. R (cond c (suc (place_of u e.0)) 0)) (sym t) in
    let here : (b : Bool) → eqb d.0 e.0 ≡ b → (e.0, max (cond b d.1 0) e.1) ∷ join_versions (cond b u (d ∷ u)) v ≡ R 0 = λ b t. ap (λ c. (e.0, max (cond c d.1 0) e.1) ∷ join_versions (cond c u (d ∷ u)) v) (sym t) in
    by_order _ d.0 e.0
    (λ l. ap (λ w. join_versions w v) (raise_past d u (record { value = e.1; replica = e.0 }) l) ∙ joined_past (suc e.0) d (raise u (record { value = e.1; replica = e.0 })) v (are_entries (suc e.0) v hv.4) (omega arith) ∙ ap (λ w. d ∷ w) (joined_along (suc d.0) m u v e hu.4 hv) ∙ at true (lt-ltb d.0 e.0 l))
    (λ q. ap (λ w. join_versions w v) (raise_here d u e q) ∙ joined_past (suc e.0) (e.0, max d.1 e.1) u v (are_entries (suc e.0) v hv.4) (omega arith) ∙ here true (eq-eqb d.0 e.0 q) ∙ at false (le-ltb d.0 e.0 (omega arith)))
    (λ g. ap (λ w. join_versions w v) (raise_before d.0 (d ∷ u) e (omega arith, hu.1, hu.2, hu.3, hu.4) g hv.2) ∙ joined_past (suc e.0) e (d ∷ u) v (are_entries (suc e.0) v hv.4) (omega arith) ∙ ap (λ x. (e.0, x) ∷ join_versions (d ∷ u) v) (omega arith) ∙ here false (ne_eqb d.0 e.0 (λ q. absurd (omega arith))) ∙ at false (le-ltb d.0 e.0 (omega arith)))

-- ---- one turn of a walk along the second's entries

lower : (n m : ℕ) (v : Entries) → n ≤ m → IsVersionFrom m v → IsVersionFrom n v
lower n m [] l h = tt
lower n m (e ∷ v) l h = (let a = h.0 in omega arith, h.1, h.2, h.3, h.4)

pub version_drop : (n k : ℕ) (v : Entries) → IsVersionFrom n v → IsVersionFrom n (drop k v)
version_drop n zero v h = h
version_drop n (suc k) [] h = tt
version_drop n (suc k) (e ∷ v) h = lower n (suc e.0) (drop k v) (let a = h.0 in omega arith) (version_drop (suc e.0) k v h.4)

pub version_behind : (n r : ℕ) (v : Entries) → IsVersionFrom n v → IsVersionFrom n (behind v r)
version_behind n r [] h = tt
version_behind n r (e ∷ v) h = elim (eqb e.0 r) as (λ b. IsVersionFrom n (cond b v (e ∷ v))) [
  | true ↦ lower n (suc e.0) v (let a = h.0 in omega arith) h.4
  | false ↦ h
]

abbrev At : Entries → ℕ → ℕ × ℕ
At v i = get_or v i (0, 0)

turned : (v : Entries) (i : ℕ) → IsVersionFrom 0 v → i < length v → IsVersionFrom 0 (At v i ∷ drop (i + 1) v)
turned v i h l = subst (IsVersionFrom 0) (drop_more v i (0, 0) l) (version_drop 0 i v h)

-- what is looked for among the entries from i on, with u left of the first's
pub unseen_turn : (u v from : Entries) (i p : ℕ) → IsVersionFrom 0 u → IsVersionFrom 0 v → i < length v → p ≡ place_of u (At v i).0 → from ≡ drop p u
    → (front from (At v i).0 < (At v i).1 → first_unseen u (drop i v) ≡ Some (At v i)) × ((At v i).1 ≤ front from (At v i).0 → first_unseen u (drop i v) ≡ first_unseen from (drop (i + 1) v))
unseen_turn u v from i p hu hv l hp hf =
    let e = At v i in
    let w = drop (i + 1) v in
    let here : first_unseen u (drop i v) ≡ cond (ltb (entry u e.0) e.1) (Some e) (first_unseen u w) = ap (first_unseen u) (drop_more v i (0, 0) l) in
    let far : drop (place_of u e.0) u ≡ from = ap (λ k. drop k u) (sym hp) ∙ sym hf in
    let value : entry u e.0 ≡ front from e.0 = entry_by_place 0 u e.0 hu ∙ ap (λ z. front z e.0) far in
    let rest = turned v i hv l in
    let later : first_unseen u w ≡ first_unseen from w = unseen_later u w e.0 (suc e.0) (omega arith) rest.4 ∙ ap (λ z. first_unseen z w) far in
    let now : (b : Bool) → ltb (front from e.0) e.1 ≡ b → first_unseen u (drop i v) ≡ cond b (Some e) (first_unseen u w) = λ b t. here ∙ ap (λ x. cond (ltb x e.1) (Some e) (first_unseen u w)) value ∙ ap (λ c. cond c (Some e) (first_unseen u w)) t in
    (λ a. now true (lt-ltb (front from e.0) e.1 a), λ a. now false (le-ltb (front from e.0) e.1 a) ∙ later)

pub joined_turn : (u v all before from : Entries) (i p x : ℕ) → IsVersionFrom 0 u → IsVersionFrom 0 v → i < length v → p ≡ place_of u (At v i).0 → before ≡ take p u → from ≡ drop p u → x ≡ max (front from (At v i).0) (At v i).1
    → all ++ join_versions u (drop i v) ≡ ((all ++ before) ++ ((At v i).0, x) ∷ []) ++ join_versions (behind from (At v i).0) (drop (i + 1) v)
joined_turn u v all before from i p x hu hv l hp hb hf hx =
    let e = At v i in
    let w = drop (i + 1) v in
    let near : take (place_of u e.0) u ≡ before = ap (λ k. take k u) (sym hp) ∙ sym hb in
    let far : drop (place_of u e.0) u ≡ from = ap (λ k. drop k u) (sym hp) ∙ sym hf in
    ap (λ z. all ++ join_versions u z) (drop_more v i (0, 0) l)
    ∙ ap (λ z. all ++ z) (joined_along 0 0 u w e hu (turned v i hv l))
    ∙ ap (λ z. all ++ (z ++ (e.0, max (front (drop (place_of u e.0) u) e.0) e.1) ∷ join_versions (behind (drop (place_of u e.0) u) e.0) w)) near
    ∙ ap (λ z. all ++ (before ++ (e.0, max (front z e.0) e.1) ∷ join_versions (behind z e.0) w)) far
    ∙ ap (λ z. all ++ (before ++ (e.0, z) ∷ join_versions (behind from e.0) w)) (sym hx)
    ∙ sym (append_assoc all before ((e.0, x) ∷ join_versions (behind from e.0) w))
    ∙ sym (append_assoc (all ++ before) ((e.0, x) ∷ []) (join_versions (behind from e.0) w))

-- ---- two versions of the same replicas

joined_here : (d : ℕ × ℕ) (u : Entries) (e : ℕ × ℕ) (v : Entries) (m : ℕ) → d.0 ≡ e.0 → IsVersionFrom m (e ∷ v) → join_versions (d ∷ u) (e ∷ v) ≡ (e.0, max d.1 e.1) ∷ join_versions u v
joined_here d u e v m q h = ap (λ w. join_versions w v) (raise_here d u e q) ∙ joined_past (suc e.0) (e.0, max d.1 e.1) u v (are_entries (suc e.0) v h.4) (omega arith)

-- one entry raised in place, after those that are raised already
pub joined_each : (u v : Entries) (i x : ℕ) → IsVersionFrom 0 v → i < length v → length u ≡ length v → (At u i).0 ≡ (At v i).0 → x ≡ max (At u i).1 (At v i).1
    → take i u ++ join_versions (drop i u) (drop i v) ≡ take (i + 1) (set u i ((At v i).0, x)) ++ join_versions (drop (i + 1) (set u i ((At v i).0, x))) (drop (i + 1) v)
joined_each u v i x h l long same greater =
    let d = At u i in
    let e = At v i in
    let a : ℕ × ℕ = (e.0, x) in
    let us = drop (i + 1) u in
    let vs = drop (i + 1) v in
    let within : i < length u = omega (arith, l, long) in
    let here : join_versions (drop i u) (drop i v) ≡ a ∷ join_versions us vs =
    ap (λ z. join_versions z (drop i v)) (drop_more u i (0, 0) within)
    ∙ ap (λ z. join_versions (d ∷ us) z) (drop_more v i (0, 0) l)
    ∙ joined_here d us e vs 0 same (turned v i h l)
    ∙ ap (λ y. (e.0, y) ∷ join_versions us vs) (sym greater) in
    let front : take (i + 1) (set u i a) ≡ take i u ++ a ∷ [] = take_more_set u i a within in
    let back : drop (i + 1) (set u i a) ≡ us = drop-set-lt (i + 1) u i a (omega arith) in
    ap (λ z. take i u ++ z) here
    ∙ sym (append_assoc (take i u) (a ∷ []) (join_versions us vs))
    ∙ ap (λ z. z ++ join_versions us vs) (sym front)
    ∙ ap (λ z. take (i + 1) (set u i a) ++ join_versions z vs) (sym back)

heads : (d e : ℕ × ℕ) (u v : Entries) → d ∷ u ≡ e ∷ v → d ≡ e
heads d e u v q = cc

tails : (d e : ℕ × ℕ) (u v : Entries) → d ∷ u ≡ e ∷ v → u ≡ v
tails d e u v q = cc

-- what is not raised yet is as it was, its first entry and what is after it
pub same_head : (u w : Entries) (i : ℕ) → i < length u → i < length w → drop i u ≡ drop i w → At u i ≡ At w i
same_head u w i l m e = heads (At u i) (At w i) (drop (i + 1) u) (drop (i + 1) w) (sym (drop_more u i (0, 0) l) ∙ e ∙ drop_more w i (0, 0) m)

pub same_rest : (u w : Entries) (i : ℕ) (a : ℕ × ℕ) → i < length u → i < length w → drop i u ≡ drop i w → drop (i + 1) (set u i a) ≡ drop (i + 1) w
same_rest u w i a l m e = drop-set-lt (i + 1) u i a (omega arith) ∙ tails (At u i) (At w i) (drop (i + 1) u) (drop (i + 1) w) (sym (drop_more u i (0, 0) l) ∙ e ∙ drop_more w i (0, 0) m)
