-- The greatest of two lists of numbers, one after the other, and its first place.
use Rattle.std.specs.Prelude.{nat_lt}
use Rattle.std.proofs.Common.{◌≡◌, ℕ, ◌+◌, max, true, false, cond, leb, ltb, List, [], ◌∷◌, ◌++◌, length, refl, ap, ◌∙◌, arith}
use Rattle.std.proofs.lemmas.Bool.Decides.{nat_tests}
use Rattle.text_dims.specs.declared.summary.Row.{Row}
use Rattle.text_dims.specs.Counts.{greatest, first_greatest}
use Rattle.text_dims.specs.Summaries.{longer}

pub greatest-append : (ms ns : List ℕ) → greatest (ms ++ ns) ≡ max (greatest ms) (greatest ns)
greatest-append [] ns = omega arith
greatest-append (m ∷ ms) ns = omega (arith, greatest-append ms ns)

begun : (n g i : ℕ) → cond (leb g n) 0 (1 + i) ≡ cond (leb (max n g) 0) 0 (0 + cond (leb g n) 0 (1 + i))
begun n g i = grind (arith, nat_tests)

first_greatest-nil : (ns : List ℕ) → first_greatest ns ≡ cond (leb (greatest ns) 0) 0 (0 + first_greatest ns)
first_greatest-nil [] = omega arith
first_greatest-nil (n ∷ ns) = begun n (greatest ns) (first_greatest ns)

step : (m g h i j n : ℕ) → cond (leb (max g h) m) 0 (1 + cond (leb h g) i (n + j)) ≡ cond (leb h (max m g)) (cond (leb g m) 0 (1 + i)) (1 + n + j)
step m g h i j n = grind (arith, nat_tests)

pub first_greatest-append : (ms ns : List ℕ) → first_greatest (ms ++ ns) ≡ cond (leb (greatest ns) (greatest ms)) (first_greatest ms) (length ms + first_greatest ns)
first_greatest-append [] ns = first_greatest-nil ns
first_greatest-append (m ∷ ms) ns =
    rw (greatest-append ms ns, first_greatest-append ms ns)
    (step m (greatest ms) (greatest ns) (first_greatest ms) (first_greatest ns) (length ms) ∙ ap (λ k. cond (leb (greatest ns) (max m (greatest ms))) (first_greatest (m ∷ ms)) k) (omega arith))

longer-number : (r s : Row) → (longer r s).number ≡ cond (nat_lt r.chars s.chars) s.number r.number
longer-number r s = elim (nat_lt r.chars s.chars) as (λ t. (cond t s r).number ≡ cond t s.number r.number) [ true ↦ refl | false ↦ refl ]

longer-chars : (r s : Row) → (longer r s).chars ≡ max r.chars s.chars
longer-chars r s = grind (arith, nat_tests)

-- m and i are the greatest and its first place of n numbers, g and j of others; in between stands l, or l + s, or s
number_at_seam : (m i n g j l s : ℕ) →
    cond (leb (max (l + s) g) m) i (n + cond (leb g (l + s)) 0 (1 + j))
    ≡ cond (ltb (max (max m (max l 0)) (l + s)) (max s g)) (n + cond (leb g s) 0 (1 + j)) (cond (ltb (max m (max l 0)) (l + s)) n (cond (leb (max l 0) m) i (n + cond (leb 0 l) 0 (1 + 0))))
number_at_seam m i n g j l s = grind (arith, nat_tests)

module _ (ms : List ℕ) (l s : ℕ) (ns : List ℕ) where
  abbrev pub before : Row
  before = record { number = first_greatest (ms ++ l ∷ []); chars = greatest (ms ++ l ∷ []) }

  abbrev pub joined : Row
  joined = record { number = length ms; chars = l + s }

  abbrev pub after : Row
  after = record { number = length ms + first_greatest (s ∷ ns); chars = greatest (s ∷ ns) }

  pub number-seam : first_greatest (ms ++ (l + s) ∷ ns) ≡ (longer (longer before joined) after).number
  number-seam =
      rw (longer-number (longer before joined) after, longer-chars before joined, longer-number before joined, greatest-append ms (l ∷ []), first_greatest-append ms (l ∷ []), first_greatest-append ms ((l + s) ∷ ns))
      (number_at_seam (greatest ms) (first_greatest ms) (length ms) (greatest ns) (first_greatest ns) l s)

  pub chars-seam : greatest (ms ++ (l + s) ∷ ns) ≡ (longer (longer before joined) after).chars
  chars-seam =
      rw (longer-chars (longer before joined) after, longer-chars before joined, greatest-append ms (l ∷ []), greatest-append ms ((l + s) ∷ ns))
      (omega arith)
