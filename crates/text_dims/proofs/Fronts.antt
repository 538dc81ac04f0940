-- The summaries of a text's first bytes.
use Rattle.std.proofs.Common.{◌≡◌, ℕ, ◌+◌, ◌<◌, ◌≤◌, ◌^◌, List, [], ◌∷◌, ◌++◌, length, take, drop, get_or, refl, ap, sym, ◌∙◌, subst, arith, length-drop, ◌-◌, true}
use Rattle.std.specs.Str.{IsUtf8}
use Rattle.std.proofs.lemmas.List.{take-append-drop, take-take, take_more, drop-take, length-take-le, get_or_past}
use Rattle.std.specs.Prelude.{nat_le}
use Rattle.std.proofs.lemmas.Bool.{and_parts, leb-true, and_from, le-leb}
use Rattle.text_dims.specs.Bytes.{run_summary}
use Rattle.text_dims.specs.Counts.{char_count, utf16_count, newline_count, begins_char}
use Rattle.text_dims.specs.Summaries.{summary_of, text_sum, TextFits}
use Rattle.text_dims.specs.Concat.{summary-append}
use Rattle.text_dims.specs.Bounds.{last_row-longest}
use Rattle.text_dims.proofs.Singles.{run_is}
use Rattle.text_dims.proofs.Characters.{front_fits}
use Rattle.text_dims.specs.declared.places.Place.{Place}
use Rattle.text_dims.specs.Places.{end_place, place_sum, summary_end, is_cut}
use Rattle.text_dims.proofs.Walks.{summary_end-is}

pub longest : (bs : List ℕ) → (summary_of bs).last_row_chars ≤ (summary_of bs).longest_row_chars
unfolding summary_of
longest bs = last_row-longest bs

-- one byte more
pub one_more : (bs : List ℕ) (i : ℕ) → i < length bs → summary_of (take (i + 1) bs) ≡ text_sum (summary_of (take i bs)) (summary_of (get_or bs i 0 ∷ []))
one_more bs i h = ap summary_of (take_more bs i 0 h) ∙ summary-append (take i bs) (get_or bs i 0 ∷ [])

pub take-both : (i n : ℕ) (bs : List ℕ) → take (i + n) bs ≡ take i bs ++ take n (drop i bs)
take-both i n bs =
    sym (take-append-drop i (take (i + n) bs)) ∙ rw (take-take i (i + n) bs (omega arith), drop-take i n bs) refl

-- some bytes more, among which is no LF
pub run_more : (bs : List ℕ) (i n chars units : ℕ) → i + n ≤ length bs → newline_count (take n (drop i bs)) ≡ 0 → chars ≡ char_count (take n (drop i bs)) → units ≡ utf16_count (take n (drop i bs)) →
    summary_of (take (i + n) bs) ≡ text_sum (summary_of (take i bs)) (run_summary n chars units)
run_more bs i n chars units within row c u =
    let xs = take n (drop i bs) in
    let long : length xs ≡ n = length-take-le n (drop i bs) (omega (arith, length-drop i bs)) in
    let run : summary_of xs ≡ run_summary n chars units =
    run_is xs row
    ∙ ap (λ k. run_summary k (char_count xs) (utf16_count xs)) long
    ∙ ap (λ k. run_summary n k (utf16_count xs)) (sym c)
    ∙ ap (λ k. run_summary n chars k) (sym u) in
    ap summary_of (take-both i n bs) ∙ summary-append (take i bs) xs ∙ ap (text_sum (summary_of (take i bs))) run

pub one_fits : (bs : List ℕ) (i : ℕ) → IsUtf8 bs → length bs < 2 ^ 64 → i < length bs → TextFits (text_sum (summary_of (take i bs)) (summary_of (get_or bs i 0 ∷ [])))
one_fits bs i text few within = subst (λ s. TextFits s) (one_more bs i within) (front_fits bs (i + 1) text few)

-- some bytes among which is no LF
pub run_end : (a : Place) (bs : List ℕ) (n chars units : ℕ) → n ≤ length bs → newline_count (take n bs) ≡ 0 → chars ≡ char_count (take n bs) → units ≡ utf16_count (take n bs) →
    place_sum a (summary_end (run_summary n chars units)) ≡ place_sum a (end_place (take n bs))
run_end a bs n chars units within row c u =
    let xs = take n bs in
    let long : length xs ≡ n = length-take-le n bs within in
    let run : run_summary n chars units ≡ summary_of xs =
    ap (λ k. run_summary n chars k) u
    ∙ ap (λ k. run_summary n k (utf16_count xs)) c
    ∙ ap (λ k. run_summary k (char_count xs) (utf16_count xs)) (sym long)
    ∙ sym (run_is xs row) in
    ap (λ s. place_sum a (summary_end s)) run ∙ ap (place_sum a) (summary_end-is xs)

pub cut_within : (bs : List ℕ) (n : ℕ) → is_cut bs n ≡ true → n ≤ length bs
cut_within bs n t = leb-true n (length bs) (and_parts (nat_le n (length bs)) (begins_char (get_or bs n 0)) t).0

pub cut_before : (bs : List ℕ) (n : ℕ) → n < length bs → begins_char (get_or bs n 0) ≡ true → is_cut bs n ≡ true
cut_before bs n l t = and_from (nat_le n (length bs)) (begins_char (get_or bs n 0)) (le-leb n (length bs) (omega (arith, l))) t

pub cut_end : (bs : List ℕ) (n : ℕ) → n ≤ length bs → length bs ≤ n → is_cut bs n ≡ true
cut_end bs n h l = and_from (nat_le n (length bs)) (begins_char (get_or bs n 0)) (le-leb n (length bs) h) (ap begins_char (get_or_past bs n 0 l))
