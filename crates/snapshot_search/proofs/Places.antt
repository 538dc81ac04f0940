-- The places at which a needle stands, one after the other.
use Rattle.std.proofs.Common.{◌≡◌, ℕ, zero, suc, ◌+◌, ◌-◌, ◌<◌, ◌≤◌, true, false, List, [], ◌∷◌, ◌++◌, length, take, drop, slice_range, refl, sym, ap, ◌∙◌, arith, ⊎_elim, length-drop}
use Rattle.std.specs.List.{filter, range_with_len}
use Rattle.std.proofs.lemmas.Bool.{cases_Bool, cond-true, cond-false, cases_lt}
use Rattle.std.proofs.lemmas.List.{append-nil, length-take, length-take-le, get_or-take}
use Rattle.std.proofs.lemmas.List.Elements.{filter-append}
use Rattle.std.proofs.lemmas.Slice.Eq.{bytes_eq-Decides}
use Rattle.memchr.specs.Find.{OccursAt, Nowhere}
use Rattle.memchr.proofs.lemmas.MatchLemmas.{OccursAt-part, OccursAt-from_part}
use Rattle.snapshot_search.specs.Starts.{stands_at, starts_between, starts}

-- a match in a text is one in the front of it that it ends in
pub in_front : (text needle : List ℕ) (k n : ℕ) → k + length needle ≤ n → n ≤ length text → OccursAt text needle k → OccursAt (take n text) needle k
in_front text needle k n high le occurs = record {
  fits = omega (arith, length-take-le n text le);
  reads = λ j h. get_or-take n text (k + j) 0 (omega arith) ∙ occurs.reads j h;
}

-- a match in the front of a text is one in the text
pub from_front : (text needle : List ℕ) (k n : ℕ) → n ≤ length text → OccursAt (take n text) needle k → OccursAt text needle k
from_front text needle k n le occurs =
    let size = length-take-le n text le in
    let fits = occurs.fits in
    record {
      fits = omega arith;
      reads = λ j h. sym (get_or-take n text (k + j) 0 (omega arith)) ∙ occurs.reads j h;
    }

range-append : (i m n : ℕ) → range_with_len i (m + n) ≡ range_with_len i m ++ range_with_len (i + m) n
range-append i zero n =
    let none : 0 + n ≡ n = omega arith in
    let same : i ≡ i + 0 = omega arith in
    ap (range_with_len i) none ∙ ap (λ k. range_with_len k n) same
range-append i (suc m) n =
    let count : suc m + n ≡ suc (m + n) = omega arith in
    let step : i + 1 + m ≡ i + suc m = omega arith in
    ap (range_with_len i) count ∙ ap (λ l. i ∷ l) (range-append (i + 1) m n ∙ ap (λ k. range_with_len (i + 1) m ++ range_with_len k n) step)

module _ (text needle : List ℕ) (some : 0 < length needle) where
  part : (i : ℕ) → slice_range text i (i + length needle) ≡ take (length needle) (drop i text)
  part i = let count : i + length needle - i ≡ length needle = omega arith in ap (λ n. take n (drop i text)) count

  pub stands-true : (i : ℕ) → OccursAt text needle i → stands_at text needle i ≡ true
  stands-true i h = (bytes_eq-Decides _ needle).1 (part i ∙ OccursAt-part text needle i h)

  pub true-stands : (i : ℕ) → stands_at text needle i ≡ true → OccursAt text needle i
  true-stands i e =
      let is = sym (part i) ∙ (bytes_eq-Decides _ needle).0 e in
      ⊎_elim (λ (short : length (drop i text) < length needle).
      let few : length (take (length needle) (drop i text)) ≡ length needle = ap length is in
      absurd (omega (arith, few, length-take (length needle) (drop i text))))
      (λ (long : length needle ≤ length (drop i text)). OccursAt-from_part text needle i (omega (arith, length-drop i text)) is)
      (cases_lt (length (drop i text)) (length needle))

  none-from : (i n : ℕ) → Nowhere (OccursAt text needle) i (i + n) → filter (stands_at text needle) (range_with_len i n) ≡ []
  none-from i zero h = refl
  none-from i (suc n) h =
      ⊎_elim (λ (yes : stands_at text needle i ≡ true). absurd (h i (omega arith) (omega arith) (true-stands i yes)))
      (λ (no : stands_at text needle i ≡ false). cond-false _ _ _ no ∙ none-from (i + 1) n (λ k low high. h k (omega arith) (omega arith)))
      (cases_Bool (stands_at text needle i))

  -- two runs that meet
  pub starts-append : (i j k : ℕ) → i ≤ j → j ≤ k → starts_between text needle i k ≡ starts_between text needle i j ++ starts_between text needle j k
  unfolding starts_between
  starts-append i j k a b =
      let sum : k - i ≡ (j - i) + (k - j) = omega arith in
      let at : i + (j - i) ≡ j = omega arith in
      let p = stands_at text needle in
      ap (λ n. filter p (range_with_len i n)) sum ∙ ap (filter p) (range-append i (j - i) (k - j))
      ∙ filter-append p (range_with_len i (j - i)) (range_with_len (i + (j - i)) (k - j))
      ∙ ap (λ m. filter p (range_with_len i (j - i)) ++ filter p (range_with_len m (k - j))) at

  pub starts-none : (i j : ℕ) → i ≤ j → Nowhere (OccursAt text needle) i j → starts_between text needle i j ≡ []
  unfolding starts_between
  starts-none i j le h = none-from i (j - i) (λ k low high. h k low (omega arith))

  starts-here : (i : ℕ) → OccursAt text needle i → starts_between text needle i (i + 1) ≡ i ∷ []
  unfolding starts_between
  starts-here i h =
      let one : i + 1 - i ≡ 1 = omega arith in
      ap (λ n. filter (stands_at text needle) (range_with_len i n)) one ∙ cond-true _ _ _ (stands-true i h)

  -- what was found up to i is what is found up to j, where the needle stands nowhere between
  pub starts-passed : (from i j : ℕ) → from ≤ i → i ≤ j → Nowhere (OccursAt text needle) i j → starts_between text needle from i ≡ starts_between text needle from j
  starts-passed from i j a b h =
      sym (starts-append from i j a b ∙ ap (λ l. starts_between text needle from i ++ l) (starts-none i j b h) ∙ append-nil (starts_between text needle from i))

  pub starts-hit : (from i : ℕ) → from ≤ i → OccursAt text needle i → starts_between text needle from i ++ i ∷ [] ≡ starts_between text needle from (i + 1)
  starts-hit from i a h =
      sym (starts-append from i (i + 1) a (omega arith) ∙ ap (λ l. starts_between text needle from i ++ l) (starts-here i h))

  pub starts-whole : starts_between text needle 0 (length text) ≡ starts text needle
  unfolding starts_between starts
  starts-whole = let all : length text - 0 ≡ length text = omega arith in ap (λ n. filter (stands_at text needle) (range_with_len 0 n)) all
