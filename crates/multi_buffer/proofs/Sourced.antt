-- Buffers in ascending order: where one is, and what is kept once one more is put.
use Rattle.std.proofs.Common.{◌≡◌, ℕ, zero, suc, ◌<◌, ◌≤◌, ◌≢◌, List, [], ◌∷◌, length, get_or, set, refl, sym, ap, ◌∙◌, subst, arith, true, false, cond, nat_lt, Some, None, inl, inr, Result, Ok, Err, IfOk, IfErr}
use Rattle.std.specs.List.{AllByRecursion, insert}
use Rattle.std.specs.List.Sorted.{IsBinarySearchResult, IsSearchInRange}
use Rattle.std.specs.Ordering.{nat_cmp, ordering_index}
use Rattle.std.proofs.lemmas.Bool.{cases_Bool, cases_lt, eq-eqb, eqb-true, le-ltb, lt-ltb, ltb-false, ltb-true, ne_eqb}
use Rattle.std.proofs.lemmas.Bool.Decides.{nat_tests}
use Rattle.std.proofs.lemmas.Cmp.{ranked}
use Rattle.multi_buffer.specs.declared.source.Source.{Source}
use Rattle.multi_buffer.specs.Found.{IsGap, IsPlace}
use Rattle.multi_buffer.specs.State.{AscendFrom, is_of, put, source_of}

-- ---- places

-- the buffers rise from n on
buffers_from : (n : ℕ) (ks : List Source) (j : ℕ) (d : Source) → AscendFrom n ks → j < length ks → n ≤ (get_or ks j d).buffer
buffers_from n [] j d s l = absurd (omega arith)
buffers_from n (k ∷ ks) zero d s l = s.0
buffers_from n (k ∷ ks) (suc j) d s l =
    let h = s.0 in
    let r = buffers_from (suc k.buffer) ks j d s.1 (omega arith) in
    omega arith

buffers_rise : (n : ℕ) (ks : List Source) → AscendFrom n ks → (i j : ℕ) (d : Source) → i ≤ j → j < length ks → (get_or ks i d).buffer ≤ (get_or ks j d).buffer
buffers_rise n [] s i j d l m = absurd (omega arith)
buffers_rise n (k ∷ ks) s zero zero d l m = omega arith
buffers_rise n (k ∷ ks) s zero (suc j) d l m = let r = buffers_from (suc k.buffer) ks j d s.1 (omega arith) in omega arith
buffers_rise n (k ∷ ks) s (suc i) zero d l m = absurd (omega arith)
buffers_rise n (k ∷ ks) s (suc i) (suc j) d l m = buffers_rise (suc k.buffer) ks s.1 i j d (omega arith) (omega arith)

rising : (x y a : ℕ) → x ≤ y → ordering_index (nat_cmp x a) ≤ ordering_index (nat_cmp y a)
rising x y a l = grind (arith, nat_tests)

-- what a binary search by buffer says
pub record Searched (a : ℕ) (ks : List Source) (r : Result ℕ ℕ) : Type 0 where
  pub place : IfOk r (IsPlace a ks)
  pub gap : IfErr r (IsGap a ks)

pub searched : (n a : ℕ) (ks : List Source) → AscendFrom n ks → (r : Result ℕ ℕ) → IsSearchInRange r (length ks) → IsBinarySearchResult (λ (k : Source). nat_cmp k.buffer a) ks r → Searched a ks r
searched n a ks s (Ok i) within equal = record { place = record { within = within; buffer = λ d. ranked _ a _ (sym (equal d)) }; gap = tt }
searched n a ks s (Err i) within parted =
    let p = parted (λ i j d l m. rising _ _ a (buffers_rise n ks s i j d l m)) in
    record {
      place = tt;
      gap = record {
        within = within;
        lesser = λ j d low high. ranked _ a _ (sym (p.0 j d low high));
        greater = λ j d low high. ranked _ a _ (sym (p.1 j d low high));
      };
    }

-- ---- one buffer

-- no lesser buffer is in a list
pub none_below : (n a : ℕ) (ks : List Source) → AscendFrom n ks → a < n → source_of a ks ≡ None
none_below n a [] s l = refl
none_below n a (k ∷ ks) s l =
    let h = s.0 in
    let e : is_of a k ≡ false = ne_eqb k.buffer a (λ q. omega (arith, q)) in
    rw e (none_below (suc k.buffer) a ks s.1 (omega arith))

-- a buffer is found at its place
pub place_find : (n a : ℕ) (ks : List Source) (i : ℕ) (x : Source) → AscendFrom n ks → IsPlace a ks i → x ≡ get_or ks i x → source_of a ks ≡ Some x
place_find n a [] i x s p e = let w = p.within in absurd (omega arith)
place_find n a (k ∷ ks) zero x s p e = let own : is_of a k ≡ true = eq-eqb k.buffer a (p.buffer x) in rw own (ap (λ (y : Source). Some y) (sym e))
place_find n a (k ∷ ks) (suc i) x s p e =
    let w = p.within in
    let r = buffers_from (suc k.buffer) ks i x s.1 (omega arith) in
    let q = p.buffer x in
    let other : is_of a k ≡ false = ne_eqb k.buffer a (λ t. omega (arith, t, q, r)) in
    rw other (place_find (suc k.buffer) a ks i x s.1 (record { within = omega arith; buffer = λ d. p.buffer d }) e)

none_of : (a : ℕ) (ks : List Source) → ((j : ℕ) (d : Source) → j < length ks → (get_or ks j d).buffer ≢ a) → source_of a ks ≡ None
none_of a [] h = refl
none_of a (k ∷ ks) h = let other : is_of a k ≡ false = ne_eqb k.buffer a (h 0 k (omega arith)) in rw other (none_of a ks (λ j d l. h (suc j) d (omega arith)))

-- a buffer with a gap is not there
pub gap_find : (a : ℕ) (ks : List Source) (i : ℕ) → IsGap a ks i → source_of a ks ≡ None
gap_find a ks i g = none_of a ks (λ j d l q. elim (cases_lt j i) [
  | inl m ↦ (let r = g.lesser j d (omega arith) m in omega (arith, r, q))
  | inr m ↦ (let r = g.greater j d m l in omega (arith, r, q))
])

-- ---- one more buffer

-- at its place it replaces the one of the same number
pub place_put : (n : ℕ) (op : Source) (ks : List Source) (i : ℕ) → AscendFrom n ks → IsPlace op.buffer ks i → set ks i op ≡ put op ks
place_put n op [] i s p = let w = p.within in absurd (omega arith)
place_put n op (k ∷ ks) zero s p =
    let own : is_of op.buffer k ≡ true = eq-eqb k.buffer op.buffer (p.buffer k) in
    let q = p.buffer k in
    let ge : nat_lt k.buffer op.buffer ≡ false = le-ltb _ _ (omega (arith, q)) in
    rw (ge, own) refl
place_put n op (k ∷ ks) (suc i) s p =
    let w = p.within in
    let r = buffers_from (suc k.buffer) ks i k s.1 (omega arith) in
    let q = p.buffer k in
    let lt : nat_lt k.buffer op.buffer ≡ true = lt-ltb _ _ (omega (arith, q, r)) in
    rw lt (ap (λ l. k ∷ l) (place_put (suc k.buffer) op ks i s.1 (record { within = omega arith; buffer = λ d. p.buffer d })))

-- in its gap it comes between the others
pub gap_put : (op : Source) (ks : List Source) (i : ℕ) → IsGap op.buffer ks i → insert ks i op ≡ put op ks
gap_put op [] zero g = refl
gap_put op [] (suc i) g = let w = g.within in absurd (omega arith)
gap_put op (k ∷ ks) zero g =
    let r = g.greater 0 k (omega arith) (omega arith) in
    let ge : nat_lt k.buffer op.buffer ≡ false = le-ltb _ _ (omega arith) in
    let other : is_of op.buffer k ≡ false = ne_eqb k.buffer op.buffer (λ q. omega (arith, q)) in
    rw (ge, other) refl
gap_put op (k ∷ ks) (suc i) g =
    let w = g.within in
    let r = g.lesser 0 k (omega arith) (omega arith) in
    let lt : nat_lt k.buffer op.buffer ≡ true = lt-ltb _ _ r in
    rw lt (ap (λ l. k ∷ l) (gap_put op ks i (record {
      within = omega arith;
      lesser = λ j d low high. g.lesser (suc j) d (omega arith) (omega arith);
      greater = λ j d low high. g.greater (suc j) d (omega arith) (omega arith);
    })))

pub AscendFrom-put : (n : ℕ) (op : Source) (ks : List Source) → n ≤ op.buffer → AscendFrom n ks → AscendFrom n (put op ks)
AscendFrom-put n op [] l s = (l, tt)
AscendFrom-put n op (k ∷ ks) l s = elim (cases_Bool (nat_lt k.buffer op.buffer)) [
  | inl lt ↦ (let less : k.buffer < op.buffer = ltb-true _ _ lt in rw lt (s.0, AscendFrom-put (suc k.buffer) op ks (omega arith) s.1))
  | inr ge ↦ elim (cases_Bool (is_of op.buffer k)) [
    | inl own ↦ (let same : k.buffer ≡ op.buffer = eqb-true _ _ own in rw (ge, own) (l, subst (λ m. AscendFrom (suc m) ks) same s.1))
    | inr other ↦ (
        let le : op.buffer ≤ k.buffer = ltb-false _ _ ge in
        let ne : k.buffer ≢ op.buffer = λ q. let t : is_of op.buffer k ≡ true = eq-eqb _ _ q in let z : ⊥ = cc in z in
        let more : suc op.buffer ≤ k.buffer = omega (arith, ne) in
        rw (ge, other) (l, (more, s.1)))
  ]
]

pub each-put : (P : Source → Type 0) (op : Source) (ks : List Source) → P op → AllByRecursion P ks → AllByRecursion P (put op ks)
each-put P op [] h a = (h, tt)
each-put P op (k ∷ ks) h a = elim (cases_Bool (nat_lt k.buffer op.buffer)) [
  | inl lt ↦ rw lt (a.0, each-put P op ks h a.1)
  | inr ge ↦ elim (cases_Bool (is_of op.buffer k)) [
    | inl own ↦ rw (ge, own) (h, a.1)
    | inr other ↦ rw (ge, other) (h, a)
  ]
]

-- a buffer that is put is found
pub source-put : (op : Source) (ks : List Source) → source_of op.buffer (put op ks) ≡ Some op
source-put op [] = let own : is_of op.buffer op ≡ true = eq-eqb _ _ refl in rw own refl
source-put op (k ∷ ks) = let own : is_of op.buffer op ≡ true = eq-eqb op.buffer op.buffer refl in
    elim (cases_Bool (nat_lt k.buffer op.buffer)) [
      | inl lt ↦ (
          let less : k.buffer < op.buffer = ltb-true _ _ lt in
          let other : is_of op.buffer k ≡ false = ne_eqb k.buffer op.buffer (λ q. omega (arith, q)) in
          rw (lt, other) (source-put op ks))
      | inr ge ↦ elim (cases_Bool (is_of op.buffer k)) [ inl same ↦ rw (ge, same, own) refl | inr other ↦ rw (ge, other, own) refl ]
    ]

-- and those of the others stay
pub source-put_other : (a : ℕ) (op : Source) (ks : List Source) → a ≢ op.buffer → source_of a (put op ks) ≡ source_of a ks
source-put_other a op [] n = let not_op : is_of a op ≡ false = ne_eqb op.buffer a (λ q. n (sym q)) in rw not_op refl
source-put_other a op (k ∷ ks) n = let not_op : is_of a op ≡ false = ne_eqb op.buffer a (λ q. n (sym q)) in
    elim (cases_Bool (nat_lt k.buffer op.buffer)) [
      | inl lt ↦ rw lt (ap (λ o. cond (is_of a k) (Some k) o) (source-put_other a op ks n))
      | inr ge ↦ elim (cases_Bool (is_of op.buffer k)) [
        | inl own ↦ (
            let same : k.buffer ≡ op.buffer = eqb-true _ _ own in
            let not_k : is_of a k ≡ false = ne_eqb k.buffer a (λ q. n (sym q ∙ same)) in
            rw (ge, own, not_op, not_k) refl)
        | inr other ↦ rw (ge, other, not_op) refl
      ]
    ]
