-- The summaries of texts of one byte, and of texts without an LF.
use Rattle.std.proofs.Common.{◌≡◌, ℕ, ◌+◌, Bool, true, false, cond, eqb, List, [], ◌∷◌, length, refl, arith}
use Rattle.std.specs.List.{count_by, slice_split, onto_first}
use Rattle.std.proofs.lemmas.Bool.Decides.{nat_tests}
use Rattle.std.proofs.lemmas.List.Sums.{sum_by-cons}
use Rattle.text_dims.specs.Bytes.{newline_summary, run_summary}
use Rattle.text_dims.specs.Counts.{begins_char, byte_units, is_newline, char_count, utf16_count, newline_count, rows, first_row, last_row, greatest, first_greatest}
use Rattle.text_dims.specs.Summaries.{end_point, row_chars, summary_of}

pub one_newline : (b : ℕ) → b ≡ 10 → summary_of (b ∷ []) ≡ newline_summary
unfolding summary_of end_point row_chars char_count utf16_count newline_count rows first_row last_row
one_newline b e = rw e refl

chars_of : (b k : ℕ) → cond (begins_char b) 1 0 ≡ k → char_count (b ∷ []) ≡ k
unfolding char_count
chars_of b k e = omega (arith, e)

units_of : (b u : ℕ) → byte_units b ≡ u → utf16_count (b ∷ []) ≡ u
unfolding utf16_count
units_of b u e = omega (arith, e)

one_row : (b : ℕ) → eqb b 10 ≡ false → rows (b ∷ []) ≡ (b ∷ []) ∷ []
unfolding rows
one_row b e = rw e refl

no_newlines : (b : ℕ) → eqb b 10 ≡ false → newline_count (b ∷ []) ≡ 0
unfolding newline_count
no_newlines b e = rw e refl

first_of_one : (k : ℕ) → first_greatest (k ∷ []) ≡ 0
first_of_one k = grind (arith, nat_tests)

greatest_of_one : (k : ℕ) → greatest (k ∷ []) ≡ k
greatest_of_one k = omega arith

pub one_byte : (b k u : ℕ) → eqb b 10 ≡ false → cond (begins_char b) 1 0 ≡ k → byte_units b ≡ u → summary_of (b ∷ []) ≡ run_summary 1 k u
unfolding summary_of end_point row_chars first_row last_row
one_byte b k u e c d =
    rw (one_row b e, no_newlines b e, chars_of b k c, units_of b u d, first_of_one k, greatest_of_one k) refl

whole_by : (b : ℕ) (bs : List ℕ) (rs : List (List ℕ)) (t : Bool) (n : ℕ) → cond t 1 0 + n ≡ 0 → (n ≡ 0 → rs ≡ bs ∷ []) → cond t ([] ∷ rs) (onto_first b rs) ≡ (b ∷ bs) ∷ []
whole_by b bs rs true n e h = grind arith
whole_by b bs rs false n e h = rw (h (omega (arith, e))) refl

whole_row : (bs : List ℕ) → newline_count bs ≡ 0 → rows bs ≡ bs ∷ []
unfolding rows newline_count
whole_row [] e = refl
whole_row (b ∷ bs) e =
    whole_by b bs (slice_split is_newline bs) (is_newline b) (count_by is_newline bs) (omega (arith, e, sum_by-cons (λ x. cond (is_newline x) 1 0) b bs)) (whole_row bs)

pub run_is : (bs : List ℕ) → newline_count bs ≡ 0 → summary_of bs ≡ run_summary (length bs) (char_count bs) (utf16_count bs)
unfolding summary_of end_point row_chars first_row last_row
run_is bs e = rw (whole_row bs e, e, first_of_one (char_count bs), greatest_of_one (char_count bs)) refl
