-- No count of a row passes that of its text.
use Rattle.std.specs.Prelude.{map, nat_le}
use Rattle.std.proofs.Common.{◌≡◌, ℕ, ◌+◌, ◌^◌, ◌<◌, ◌≤◌, Bool, true, false, cond, List, [], ◌∷◌, length, refl, ap, arith}
use Rattle.std.specs.List.{slice_split, onto_first}
use Rattle.std.proofs.lemmas.Bool.Decides.{nat_tests}
use Rattle.std.proofs.lemmas.List.{length-map}
use Rattle.std.proofs.lemmas.List.Sums.{count_by-le-length}
use Rattle.text_dims.specs.Counts.{begins_char, is_newline, char_count, utf16_count, newline_count, rows, first_of_rows, last_of_rows, first_row, last_row, greatest, first_greatest}
use Rattle.text_dims.specs.Summaries.{end_point, row_chars, summary_of, TextFits}
use Rattle.text_dims.specs.Rows.{rows_begun, length-rows}
use Rattle.text_dims.specs.Concat.{Adds, length_adds, chars_add, units_add}

pub char_count-le : (bs : List ℕ) → char_count bs ≤ length bs
unfolding char_count
char_count-le bs = count_by-le-length begins_char bs

pub newline_count-le : (bs : List ℕ) → newline_count bs ≤ length bs
unfolding newline_count
newline_count-le bs = count_by-le-length is_newline bs

-- a count of the texts together
total : (List ℕ → ℕ) → List (List ℕ) → ℕ
total q [] = 0
total q (r ∷ rs) = q r + total q rs

none : (q : List ℕ → ℕ) → Adds q → q [] ≡ 0
none q a = omega (arith, a.adds [] [])

first_of_rows-le : (q : List ℕ → ℕ) → Adds q → (rs : List (List ℕ)) → q (first_of_rows rs) ≤ total q rs
unfolding total
first_of_rows-le q a [] = omega (arith, none q a)
first_of_rows-le q a (r ∷ rs) = omega arith

last_of_rows-le : (q : List ℕ → ℕ) → Adds q → (rs : List (List ℕ)) → q (last_of_rows rs) ≤ total q rs
unfolding total
last_of_rows-le q a [] = omega (arith, none q a)
last_of_rows-le q a (r ∷ []) = omega arith
last_of_rows-le q a (r ∷ s ∷ rs) = omega (arith, last_of_rows-le q a (s ∷ rs))

greatest-le : (q : List ℕ → ℕ) (rs : List (List ℕ)) → greatest (map q rs) ≤ total q rs
unfolding total
greatest-le q [] = omega arith
greatest-le q (r ∷ rs) = omega (arith, greatest-le q rs)

onto-total : (q : List ℕ → ℕ) → Adds q → (b : ℕ) (rs : List (List ℕ)) → total q (onto_first b rs) ≡ q (b ∷ []) + total q rs
unfolding total
onto-total q a b [] = refl
onto-total q a b (r ∷ rs) = omega (arith, a.adds (b ∷ []) r)

split-total : (q : List ℕ → ℕ) → Adds q → (bs : List ℕ) → total q (slice_split is_newline bs) ≤ q bs
unfolding total
split-total q a [] = omega arith
split-total q a (b ∷ bs) =
    let rest = split-total q a bs in
    let whole = a.adds (b ∷ []) bs in
    elim (is_newline b) as (λ t. total q (cond t ([] ∷ slice_split is_newline bs) (onto_first b (slice_split is_newline bs))) ≤ q (b ∷ bs)) [
      | true ↦ omega (arith, none q a)
      | false ↦ omega (arith, onto-total q a b (slice_split is_newline bs))
    ]

rows-total : (q : List ℕ → ℕ) → Adds q → (bs : List ℕ) → total q (rows bs) ≤ q bs
unfolding rows
rows-total q a bs = split-total q a bs

pub first_row-le : (q : List ℕ → ℕ) → Adds q → (bs : List ℕ) → q (first_row bs) ≤ q bs
unfolding first_row
first_row-le q a bs = omega (arith, first_of_rows-le q a (rows bs), rows-total q a bs)

pub last_row-le : (q : List ℕ → ℕ) → Adds q → (bs : List ℕ) → q (last_row bs) ≤ q bs
unfolding last_row
last_row-le q a bs = omega (arith, last_of_rows-le q a (rows bs), rows-total q a bs)

pub longest-le : (bs : List ℕ) → greatest (row_chars bs) ≤ char_count bs
unfolding row_chars
longest-le bs = omega (arith, greatest-le char_count (rows bs), rows-total char_count chars_add bs)

-- the last row is no longer than the longest
last_of_rows-longest : (rs : List (List ℕ)) → char_count (last_of_rows rs) ≤ greatest (map char_count rs)
last_of_rows-longest [] = omega (arith, char_count-le [])
last_of_rows-longest (r ∷ []) = omega arith
last_of_rows-longest (r ∷ s ∷ rs) = omega (arith, last_of_rows-longest (s ∷ rs))

pub last_row-longest : (bs : List ℕ) → char_count (last_row bs) ≤ greatest (row_chars bs)
unfolding last_row row_chars
last_row-longest bs = last_of_rows-longest (rows bs)

place : (n : ℕ) (t : Bool) (i k : ℕ) → i ≤ k → cond t 0 (1 + i) ≤ 1 + k
place n true i k h = omega arith
place n false i k h = omega arith

within : (n : ℕ) (ns : List ℕ) → first_greatest (n ∷ ns) ≤ length ns
within n [] = grind (arith, nat_tests)
within n (m ∷ ms) =
    omega (arith, place n (nat_le (greatest (m ∷ ms)) n) (first_greatest (m ∷ ms)) (length ms) (within m ms))

pub longest_row-le : (bs : List ℕ) → first_greatest (row_chars bs) ≤ newline_count bs
unfolding row_chars
longest_row-le bs =
    let b = rows_begun bs in
    rw b.is
    (omega (arith, within (char_count b.first) (map char_count b.rest), length-map b.rest char_count, length-rows bs, ap length b.is))

-- the counts fit where bytes and UTF-16 units do
pub summary_fits : (bs : List ℕ) → length bs < 2 ^ 64 → utf16_count bs < 2 ^ 64 → TextFits (summary_of bs)
unfolding summary_of end_point
summary_fits bs few units = record {
  len = omega arith;
  len_utf16 = units;
  chars = omega (arith, char_count-le bs);
  lines = (omega (arith, newline_count-le bs), omega (arith, last_row-le (λ cs. length cs) length_adds bs));
  first_row_chars = omega (arith, first_row-le char_count chars_add bs, char_count-le bs);
  last_row_chars = omega (arith, last_row-le char_count chars_add bs, char_count-le bs);
  last_row_len_utf16 = omega (arith, last_row-le utf16_count units_add bs);
  longest_row = omega (arith, longest_row-le bs, newline_count-le bs);
  longest_row_chars = omega (arith, longest-le bs, char_count-le bs);
}
