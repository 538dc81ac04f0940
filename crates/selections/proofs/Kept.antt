-- Operations in ascending order of their authors: where an author's is, and what is kept once one more is put.
use Rattle.std.proofs.Common.{◌≡◌, ℕ, zero, suc, ◌<◌, ◌≤◌, ◌≢◌, List, [], ◌∷◌, length, get_or, set, refl, sym, ap, ◌∙◌, subst, arith, true, false, cond, nat_lt, Some, None, inl, inr, Result, Ok, Err, IfOk, IfErr, OnErr}
use Rattle.std.specs.List.{AllByRecursion, insert}
use Rattle.std.specs.List.Sorted.{IsBinarySearchResult, IsSearchInRange}
use Rattle.std.specs.Ordering.{nat_cmp, ordering_index}
use Rattle.std.proofs.lemmas.Bool.{cases_Bool, cases_lt, eq-eqb, eqb-true, le-ltb, lt-ltb, ltb-false, ltb-true, ne_eqb}
use Rattle.std.proofs.lemmas.Bool.Decides.{nat_tests}
use Rattle.std.proofs.lemmas.Cmp.{ranked}
use Rattle.selections.specs.declared.selection.SelectionOp.{SelectionOp}
use Rattle.selections.specs.Sets.{AscendFrom, IsGap, IsPlace, find_of, is_of, put}

-- ---- answers

pub on_err : {T E : Type 0} (r : Result T E) (P : Type 0) → P → OnErr r P
on_err (Ok x) P p = tt
on_err (Err e) P p = p

pub if_ok : {T E : Type 0} (P Q : T → Type 0) → ((x : T) → P x → Q x) → (r : Result T E) → IfOk r P → IfOk r Q
if_ok P Q f (Ok x) p = f x p
if_ok P Q f (Err e) p = tt

-- ---- places

-- the authors rise from n on
authors_from : (n : ℕ) (ks : List SelectionOp) (j : ℕ) (d : SelectionOp) → AscendFrom n ks → j < length ks → n ≤ (get_or ks j d).stamp.replica
authors_from n [] j d s l = absurd (omega arith)
authors_from n (k ∷ ks) zero d s l = s.0
authors_from n (k ∷ ks) (suc j) d s l =
    let h = s.0 in
    let r = authors_from (suc k.stamp.replica) ks j d s.1 (omega arith) in
    omega arith

authors_rise : (n : ℕ) (ks : List SelectionOp) → AscendFrom n ks → (i j : ℕ) (d : SelectionOp) → i ≤ j → j < length ks → (get_or ks i d).stamp.replica ≤ (get_or ks j d).stamp.replica
authors_rise n [] s i j d l m = absurd (omega arith)
authors_rise n (k ∷ ks) s zero zero d l m = omega arith
authors_rise n (k ∷ ks) s zero (suc j) d l m = let r = authors_from (suc k.stamp.replica) ks j d s.1 (omega arith) in omega arith
authors_rise n (k ∷ ks) s (suc i) zero d l m = absurd (omega arith)
authors_rise n (k ∷ ks) s (suc i) (suc j) d l m = authors_rise (suc k.stamp.replica) ks s.1 i j d (omega arith) (omega arith)

rising : (x y a : ℕ) → x ≤ y → ordering_index (nat_cmp x a) ≤ ordering_index (nat_cmp y a)
rising x y a l = grind (arith, nat_tests)

-- what a binary search by author says
pub record Searched (a : ℕ) (ks : List SelectionOp) (r : Result ℕ ℕ) : Type 0 where
  pub place : IfOk r (IsPlace a ks)
  pub gap : IfErr r (IsGap a ks)

pub searched : (n a : ℕ) (ks : List SelectionOp) → AscendFrom n ks → (r : Result ℕ ℕ) → IsSearchInRange r (length ks) → IsBinarySearchResult (λ (k : SelectionOp). nat_cmp k.stamp.replica a) ks r → Searched a ks r
searched n a ks s (Ok i) within equal = record { place = record { within = within; author = λ d. ranked _ a _ (sym (equal d)) }; gap = tt }
searched n a ks s (Err i) within parted =
    let p = parted (λ i j d l m. rising _ _ a (authors_rise n ks s i j d l m)) in
    record {
      place = tt;
      gap = record {
        within = within;
        lesser = λ j d low high. ranked _ a _ (sym (p.0 j d low high));
        greater = λ j d low high. ranked _ a _ (sym (p.1 j d low high));
      };
    }

-- ---- the author's operation

-- no operation of a lesser author is in a list
pub none_below : (n a : ℕ) (ks : List SelectionOp) → AscendFrom n ks → a < n → find_of a ks ≡ None
none_below n a [] s l = refl
none_below n a (k ∷ ks) s l =
    let h = s.0 in
    let e : is_of a k ≡ false = ne_eqb k.stamp.replica a (λ q. omega (arith, q)) in
    rw e (none_below (suc k.stamp.replica) a ks s.1 (omega arith))

-- the author's operation is found at its place
pub place_find : (n a : ℕ) (ks : List SelectionOp) (i : ℕ) (x : SelectionOp) → AscendFrom n ks → IsPlace a ks i → x ≡ get_or ks i x → find_of a ks ≡ Some x
place_find n a [] i x s p e = let w = p.within in absurd (omega arith)
place_find n a (k ∷ ks) zero x s p e = let own : is_of a k ≡ true = eq-eqb k.stamp.replica a (p.author x) in rw own (ap (λ (y : SelectionOp). Some y) (sym e))
place_find n a (k ∷ ks) (suc i) x s p e =
    let w = p.within in
    let r = authors_from (suc k.stamp.replica) ks i x s.1 (omega arith) in
    let q = p.author x in
    let other : is_of a k ≡ false = ne_eqb k.stamp.replica a (λ t. omega (arith, t, q, r)) in
    rw other (place_find (suc k.stamp.replica) a ks i x s.1 (record { within = omega arith; author = λ d. p.author d }) e)

none_of : (a : ℕ) (ks : List SelectionOp) → ((j : ℕ) (d : SelectionOp) → j < length ks → (get_or ks j d).stamp.replica ≢ a) → find_of a ks ≡ None
none_of a [] h = refl
none_of a (k ∷ ks) h = let other : is_of a k ≡ false = ne_eqb k.stamp.replica a (h 0 k (omega arith)) in rw other (none_of a ks (λ j d l. h (suc j) d (omega arith)))

-- an author with a gap has none
pub gap_find : (a : ℕ) (ks : List SelectionOp) (i : ℕ) → IsGap a ks i → find_of a ks ≡ None
gap_find a ks i g = none_of a ks (λ j d l q. elim (cases_lt j i) [
  | inl m ↦ (let r = g.lesser j d (omega arith) m in omega (arith, r, q))
  | inr m ↦ (let r = g.greater j d m l in omega (arith, r, q))
])

-- ---- one more operation

-- at its place it replaces the author's
pub place_put : (n : ℕ) (op : SelectionOp) (ks : List SelectionOp) (i : ℕ) → AscendFrom n ks → IsPlace op.stamp.replica ks i → set ks i op ≡ put op ks
place_put n op [] i s p = let w = p.within in absurd (omega arith)
place_put n op (k ∷ ks) zero s p =
    let own : is_of op.stamp.replica k ≡ true = eq-eqb k.stamp.replica op.stamp.replica (p.author k) in
    let q = p.author k in
    let ge : nat_lt k.stamp.replica op.stamp.replica ≡ false = le-ltb _ _ (omega (arith, q)) in
    rw (ge, own) refl
place_put n op (k ∷ ks) (suc i) s p =
    let w = p.within in
    let r = authors_from (suc k.stamp.replica) ks i k s.1 (omega arith) in
    let q = p.author k in
    let lt : nat_lt k.stamp.replica op.stamp.replica ≡ true = lt-ltb _ _ (omega (arith, q, r)) in
    rw lt (ap (λ l. k ∷ l) (place_put (suc k.stamp.replica) op ks i s.1 (record { within = omega arith; author = λ d. p.author d })))

-- in its gap it comes between the others
pub gap_put : (op : SelectionOp) (ks : List SelectionOp) (i : ℕ) → IsGap op.stamp.replica ks i → insert ks i op ≡ put op ks
gap_put op [] zero g = refl
gap_put op [] (suc i) g = let w = g.within in absurd (omega arith)
gap_put op (k ∷ ks) zero g =
    let r = g.greater 0 k (omega arith) (omega arith) in
    let ge : nat_lt k.stamp.replica op.stamp.replica ≡ false = le-ltb _ _ (omega arith) in
    let other : is_of op.stamp.replica k ≡ false = ne_eqb k.stamp.replica op.stamp.replica (λ q. omega (arith, q)) in
    rw (ge, other) refl
gap_put op (k ∷ ks) (suc i) g =
    let w = g.within in
    let r = g.lesser 0 k (omega arith) (omega arith) in
    let lt : nat_lt k.stamp.replica op.stamp.replica ≡ true = lt-ltb _ _ r in
    rw lt (ap (λ l. k ∷ l) (gap_put op ks i (record {
      within = omega arith;
      lesser = λ j d low high. g.lesser (suc j) d (omega arith) (omega arith);
      greater = λ j d low high. g.greater (suc j) d (omega arith) (omega arith);
    })))

pub AscendFrom-put : (n : ℕ) (op : SelectionOp) (ks : List SelectionOp) → n ≤ op.stamp.replica → AscendFrom n ks → AscendFrom n (put op ks)
AscendFrom-put n op [] l s = (l, tt)
AscendFrom-put n op (k ∷ ks) l s = elim (cases_Bool (nat_lt k.stamp.replica op.stamp.replica)) [
  | inl lt ↦ (let less : k.stamp.replica < op.stamp.replica = ltb-true _ _ lt in rw lt (s.0, AscendFrom-put (suc k.stamp.replica) op ks (omega arith) s.1))
  | inr ge ↦ elim (cases_Bool (is_of op.stamp.replica k)) [
    | inl own ↦ (let same : k.stamp.replica ≡ op.stamp.replica = eqb-true _ _ own in rw (ge, own) (l, subst (λ m. AscendFrom (suc m) ks) same s.1))
    | inr other ↦ (
        let le : op.stamp.replica ≤ k.stamp.replica = ltb-false _ _ ge in
        let ne : k.stamp.replica ≢ op.stamp.replica = λ q. let t : is_of op.stamp.replica k ≡ true = eq-eqb _ _ q in let z : ⊥ = cc in z in
        let more : suc op.stamp.replica ≤ k.stamp.replica = omega (arith, ne) in
        rw (ge, other) (l, (more, s.1)))
  ]
]

pub each-put : (P : SelectionOp → Type 0) (op : SelectionOp) (ks : List SelectionOp) → P op → AllByRecursion P ks → AllByRecursion P (put op ks)
each-put P op [] h a = (h, tt)
each-put P op (k ∷ ks) h a = elim (cases_Bool (nat_lt k.stamp.replica op.stamp.replica)) [
  | inl lt ↦ rw lt (a.0, each-put P op ks h a.1)
  | inr ge ↦ elim (cases_Bool (is_of op.stamp.replica k)) [
    | inl own ↦ rw (ge, own) (h, a.1)
    | inr other ↦ rw (ge, other) (h, a)
  ]
]

-- an operation that is put is its author's
pub find-put : (op : SelectionOp) (ks : List SelectionOp) → find_of op.stamp.replica (put op ks) ≡ Some op
find-put op [] = let own : is_of op.stamp.replica op ≡ true = eq-eqb _ _ refl in rw own refl
find-put op (k ∷ ks) = let own : is_of op.stamp.replica op ≡ true = eq-eqb op.stamp.replica op.stamp.replica refl in
    elim (cases_Bool (nat_lt k.stamp.replica op.stamp.replica)) [
      | inl lt ↦ (
          let less : k.stamp.replica < op.stamp.replica = ltb-true _ _ lt in
          let other : is_of op.stamp.replica k ≡ false = ne_eqb k.stamp.replica op.stamp.replica (λ q. omega (arith, q)) in
          rw (lt, other) (find-put op ks))
      | inr ge ↦ elim (cases_Bool (is_of op.stamp.replica k)) [ inl same ↦ rw (ge, same, own) refl | inr other ↦ rw (ge, other, own) refl ]
    ]

-- and those of the others stay
pub find-put_other : (a : ℕ) (op : SelectionOp) (ks : List SelectionOp) → a ≢ op.stamp.replica → find_of a (put op ks) ≡ find_of a ks
find-put_other a op [] n = let not_op : is_of a op ≡ false = ne_eqb op.stamp.replica a (λ q. n (sym q)) in rw not_op refl
find-put_other a op (k ∷ ks) n = let not_op : is_of a op ≡ false = ne_eqb op.stamp.replica a (λ q. n (sym q)) in
    elim (cases_Bool (nat_lt k.stamp.replica op.stamp.replica)) [
      | inl lt ↦ rw lt (ap (λ o. cond (is_of a k) (Some k) o) (find-put_other a op ks n))
      | inr ge ↦ elim (cases_Bool (is_of op.stamp.replica k)) [
        | inl own ↦ (
            let same : k.stamp.replica ≡ op.stamp.replica = eqb-true _ _ own in
            let not_k : is_of a k ≡ false = ne_eqb k.stamp.replica a (λ q. n (sym q ∙ same)) in
            rw (ge, own, not_op, not_k) refl)
        | inr other ↦ rw (ge, other, not_op) refl
      ]
    ]
