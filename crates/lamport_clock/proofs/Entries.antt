-- A version's entries where one is put among them.
use Rattle.std.proofs.Common.{◌≡◌, ℕ, suc, ◌<◌, ◌≤◌, ◌≢◌, [], ◌∷◌, ◌++◌, length, get_or, take, List, refl, sym, ap, ◌∙◌, subst, arith, true, false, cond, eqb, nat_lt, set, append-nil, eq-eqb, ne_eqb, ◌⊎◌, inl, inr}
use Rattle.std.proofs.Math.ListN.{length-set}
use Rattle.std.proofs.lemmas.List.{take_all, drop_all}
use Rattle.std.proofs.lemmas.Bool.{ltb-true, ltb-false, cases_Bool, leb-false}
use Rattle.std.proofs.lemmas.Bool.Decides.{nat_tests}
use Rattle.std.specs.List.{refill, insert, AllByRecursion}
use Rattle.lamport_clock.specs.Versions.{Entries, put_entry, place_of, IsAt, IsVersion, IsVersionFrom, entry, sees, raise}
use Rattle.lamport_clock.specs.declared.stamp.Lamport.{Lamport}

-- the entry at the replica's place is the replica's: it gets the value
pub put-set : (v : Entries) (r x : ℕ) (d : ℕ × ℕ) → place_of v r < length v → (get_or v (place_of v r) d).0 ≡ r → set v (place_of v r) (r, x) ≡ put_entry r x v
put-set [] r x d = λ h e. absurd (omega arith)
put-set (y ∷ v) r x d =
    elim (nat_lt y.0 r) as (λ b. nat_lt y.0 r ≡ b → cond b (suc (place_of v r)) 0 < suc (length v) → (get_or (y ∷ v) (cond b (suc (place_of v r)) 0) d).0 ≡ r → set (y ∷ v) (cond b (suc (place_of v r)) 0) (r, x) ≡ cond b (y ∷ put_entry r x v) (cond (eqb y.0 r) ((r, x) ∷ v) ((r, x) ∷ y ∷ v))) [
      | true ↦ λ b h e. ap (λ l. y ∷ l) (put-set v r x d (omega arith) e)
      | false ↦ λ b h e. let q : eqb y.0 r ≡ true = eq-eqb y.0 r e in ap (λ t. cond t ((r, x) ∷ v) ((r, x) ∷ y ∷ v)) (sym q)
    ] refl

pub put-insert : (v : Entries) (r x : ℕ) (d : ℕ × ℕ) → (place_of v r < length v → (get_or v (place_of v r) d).0 ≡ r → ⊥) → insert v (place_of v r) (r, x) ≡ put_entry r x v
put-insert [] r x d = λ h. refl
put-insert (y ∷ v) r x d =
    elim (nat_lt y.0 r) as (λ b. nat_lt y.0 r ≡ b → (cond b (suc (place_of v r)) 0 < suc (length v) → (get_or (y ∷ v) (cond b (suc (place_of v r)) 0) d).0 ≡ r → ⊥) → insert (y ∷ v) (cond b (suc (place_of v r)) 0) (r, x) ≡ cond b (y ∷ put_entry r x v) (cond (eqb y.0 r) ((r, x) ∷ v) ((r, x) ∷ y ∷ v))) [
      | true ↦ λ b h. ap (λ l. y ∷ l) (put-insert v r x d (λ k e. h (omega arith) e))
      | false ↦ λ b h. let q : eqb y.0 r ≡ false = ne_eqb y.0 r (h (omega arith)) in ap (λ t. cond t ((r, x) ∷ v) ((r, x) ∷ y ∷ v)) (sym q)
    ] refl

-- a list that is filled from another of its length is that one
pub refilled : {A : Type 0} (v w : List A) → length w ≡ length v → refill (length v) v w ≡ w
refilled v w e = ap (λ l. take (length v) (w ++ l)) (drop_all (length w) v (omega arith)) ∙ ap (take (length v)) (append-nil w) ∙ take_all (length v) w (omega arith)

pub set_here : (v s1 s2 s3 : Entries) (i r x : ℕ) → s1 ≡ v → s2 ≡ v → s3 ≡ v → i ≡ place_of s1 r → IsAt s2 i r → refill (length v) v (set s3 i (r, x)) ≡ put_entry r x v
set_here v s1 s2 s3 i r x a b c p h =
    let k = rw (b, p, a) at h in
    rw (c, p, a) (refilled v (set v (place_of v r) (r, x)) (length-set v _ _) ∙ put-set v r x (0, 0) k.0 k.1)

pub insert_here : (v s1 s2 new : Entries) (i r x : ℕ) → s1 ≡ v → s2 ≡ v → i ≡ place_of s1 r → (IsAt s2 i r → ⊥) → new ≡ insert v i (r, x) → new ≡ put_entry r x v
insert_here v s1 s2 new i r x a b p h e =
    let k = rw (b, p, a) at h in
    let j = rw (p, a) at e in
    j ∙ put-insert v r x (0, 0) (λ lt is. k (lt, is))

pub IsVersionFrom-put : (n : ℕ) (v : Entries) (r x : ℕ) → n ≤ r → r < 65536 → 0 < x → x < 4294967296 → IsVersionFrom n v → IsVersionFrom n (put_entry r x v)
IsVersionFrom-put n [] r x a b c d h = (a, b, c, d, tt)
IsVersionFrom-put n (y ∷ v) r x a b c d h =
    elim (nat_lt y.0 r) as (λ t. nat_lt y.0 r ≡ t → IsVersionFrom n (cond t (y ∷ put_entry r x v) (cond (eqb y.0 r) ((r, x) ∷ v) ((r, x) ∷ y ∷ v)))) [
      | true ↦ λ e. let lt : y.0 < r = ltb-true _ _ e in (h.0, h.1, h.2, h.3, IsVersionFrom-put (suc y.0) v r x (omega arith) b c d h.4)
      | false ↦ λ e. elim (eqb y.0 r) as (λ t. eqb y.0 r ≡ t → IsVersionFrom n (cond t ((r, x) ∷ v) ((r, x) ∷ y ∷ v))) [
        | true ↦ λ q. let same : y.0 ≡ r = grind (arith, nat_tests) in (a, b, c, d, subst (λ m. IsVersionFrom (suc m) v) same h.4)
        | false ↦ λ q. let le : r ≤ y.0 = ltb-false _ _ e in let ne : y.0 ≢ r = grind (arith, nat_tests) in (a, b, c, d, (omega (arith, ne), h.1, h.2, h.3, h.4))
      ] refl
    ] refl

pub IsVersion-put : (v : Entries) (r x : ℕ) → r < 65536 → 0 < x → x < 4294967296 → IsVersion v → IsVersion (put_entry r x v)
IsVersion-put v r x b c d h = IsVersionFrom-put 0 v r x (omega arith) b c d h

-- a version that takes a stamp is one
pub raise_version : (v : Entries) (t : Lamport) → t.value < 4294967296 → t.replica < 65536 → IsVersion v → IsVersion (raise v t)
raise_version v t a b i = go (cases_Bool (sees v t))
  where
    go : (sees v t ≡ true) ⊎ (sees v t ≡ false) → IsVersion (raise v t)
    go (inl s) = rw s i
    go (inr s) = let g : entry v t.replica < t.value = leb-false t.value (entry v t.replica) s in rw s (IsVersion-put v t.replica t.value b (omega arith) a i)

-- ---- what a version's entries say

apart : (x y : ℕ) → suc x ≤ y → eqb x y ≡ false
apart x y h = grind (arith, nat_tests)

-- an entry of a lower replica changes none of them
entries_after : (n : ℕ) (e : ℕ × ℕ) (v w : Entries) → suc e.0 ≤ n → IsVersionFrom n w → AllByRecursion (λ (d : ℕ × ℕ). entry v d.0 ≡ d.1) w → AllByRecursion (λ (d : ℕ × ℕ). entry (e ∷ v) d.0 ≡ d.1) w
entries_after n e v [] l i a = tt
entries_after n e v (d ∷ w) l i a = (
  (let h = i.0 in let s = apart e.0 d.0 (omega arith) in rw s a.0),
  (let h = i.0 in entries_after (suc d.0) e v w (omega arith) i.4 a.1),
)

-- each entry is what the version says
pub own_entries : (n : ℕ) (v : Entries) → IsVersionFrom n v → AllByRecursion (λ (e : ℕ × ℕ). entry v e.0 ≡ e.1) v
own_entries n [] i = tt
own_entries n (e ∷ v) i = (
  (let s = eq-eqb e.0 e.0 refl in rw s refl),
  entries_after (suc e.0) e v v (omega arith) i.4 (own_entries (suc e.0) v i.4),
)
