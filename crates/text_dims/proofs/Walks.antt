-- The places of a text are those that a walk along it meets.
use Rattle.std.specs.Prelude.{map, filter, find}
use Rattle.std.proofs.Common.{◌≡◌, ℕ, suc, ◌+◌, ◌≤◌, Bool, true, false, cond, eqb, List, [], ◌∷◌, ◌++◌, length, take, get_or, refl, ap, sym, ◌∙◌, arith, append_assoc, length-append, None}
use Rattle.std.specs.List.{range_with_len}
use Rattle.std.proofs.lemmas.Bool.{eqb-true, le-leb}
use Rattle.std.proofs.lemmas.List.{take_at, get_or-append-add}
use Rattle.std.proofs.lemmas.Bool.Decides.{nat_tests}
use Rattle.text_dims.specs.declared.places.Place.{Place}
use Rattle.text_dims.specs.Bytes.{newline_summary, run_summary}
use Rattle.text_dims.specs.Counts.{begins_char, byte_units, utf16_count}
use Rattle.text_dims.specs.Summaries.{summary_of, end_point}
use Rattle.text_dims.specs.Concat.{newline_count-append, utf16_count-append, last_row-append, length_adds, units_add}
use Rattle.text_dims.specs.Places.{is_cut, end_place, places, place_sum, place_after, summary_end, walk}
use Rattle.text_dims.proofs.Singles.{one_newline, one_byte}

pub end_place-append : (xs ys : List ℕ) → end_place (xs ++ ys) ≡ place_sum (end_place xs) (end_place ys)
unfolding end_place
end_place-append xs ys =
    rw (length-append xs ys, utf16_count-append xs ys, newline_count-append xs ys, last_row-append (λ bs. length bs) length_adds xs ys, last_row-append utf16_count units_add xs ys) refl

pub summary_end-is : (bs : List ℕ) → summary_end (summary_of bs) ≡ end_place bs
unfolding summary_of end_point end_place
summary_end-is bs = refl

sum_newline : (a : Place) (b : ℕ) → b ≡ 10 → place_sum a (summary_end newline_summary) ≡ place_after a b
sum_newline a b e = rw e refl

no_row : (a : Place) → a.row + 0 ≡ a.row
no_row a = omega arith

sum_other : (a : Place) (b k : ℕ) → eqb b 10 ≡ false → place_sum a (summary_end (run_summary 1 k (byte_units b))) ≡ place_after a b
sum_other a b k e = rw (e, no_row a) refl

pub by_byte : (a : Place) (b : ℕ) (t : Bool) → eqb b 10 ≡ t → place_sum a (end_place (b ∷ [])) ≡ place_after a b
by_byte a b true e =
    let is = eqb-true b 10 e in rw (← summary_end-is (b ∷ []), one_newline b is) (sum_newline a b is)
by_byte a b false e =
    rw (← summary_end-is (b ∷ []), one_byte b (cond (begins_char b) 1 0) (byte_units b) e refl refl) (sum_other a b (cond (begins_char b) 1 0) e)

pub place_after-is : (xs : List ℕ) (b : ℕ) → place_after (end_place xs) b ≡ end_place (xs ++ b ∷ [])
place_after-is xs b = sym (end_place-append xs (b ∷ []) ∙ by_byte (end_place xs) b (eqb b 10) refl)

-- the places of a text among the offsets from a on
among : List ℕ → ℕ → ℕ → List Place
among bs a n = map (λ o. end_place (take o bs)) (filter (is_cut bs) (range_with_len a n))

among-cons : (bs : List ℕ) (a n : ℕ) → among bs a (suc n) ≡ cond (is_cut bs a) (end_place (take a bs) ∷ among bs (a + 1) n) (among bs (a + 1) n)
unfolding among
among-cons bs a n =
    elim (is_cut bs a) as (λ t. map (λ o. end_place (take o bs)) (cond t (a ∷ filter (is_cut bs) (range_with_len (a + 1) n)) (filter (is_cut bs) (range_with_len (a + 1) n))) ≡ cond t (end_place (take a bs) ∷ among bs (a + 1) n) (among bs (a + 1) n)) [
      | true ↦ refl
      | false ↦ refl
    ]

get_or_seam : (xs bs : List ℕ) → get_or (xs ++ bs) (length xs) 0 ≡ get_or bs 0 0
get_or_seam xs bs = let here : length xs ≡ length xs + 0 = omega arith in ap (λ i. get_or (xs ++ bs) i 0) here ∙ get_or-append-add xs bs 0 0

cut_here : (xs bs : List ℕ) → is_cut (xs ++ bs) (length xs) ≡ begins_char (get_or bs 0 0)
cut_here xs bs =
    let within : length xs ≤ length (xs ++ bs) = omega (arith, length-append xs bs) in
    rw (le-leb (length xs) (length (xs ++ bs)) within, get_or_seam xs bs) refl

among-nil : (bs : List ℕ) (a : ℕ) → among bs a 0 ≡ []
unfolding among
among-nil bs a = refl

among-walk : (xs bs : List ℕ) → among (xs ++ bs) (length xs) (length bs + 1) ≡ walk (end_place xs) bs
among-walk xs [] = among-cons (xs ++ []) (length xs) 0 ∙ rw (cut_here xs [], take_at xs [] (length xs) refl, among-nil (xs ++ []) (length xs + 1)) refl
among-walk xs (b ∷ bs) =
    let more : length (b ∷ bs) + 1 ≡ suc (length bs + 1) = omega arith in
    let t : (xs ++ b ∷ []) ++ bs ≡ xs ++ b ∷ bs = append_assoc xs (b ∷ []) bs in
    let next : length (xs ++ b ∷ []) ≡ length xs + 1 = length-append xs (b ∷ []) in
    let rest : among (xs ++ b ∷ bs) (length xs + 1) (length bs + 1) ≡ walk (place_after (end_place xs) b) bs =
    rw (← t, ← next, place_after-is xs b) (among-walk (xs ++ b ∷ []) bs) in
    rw (more, among-cons (xs ++ b ∷ bs) (length xs) (length bs + 1), cut_here xs (b ∷ bs), take_at xs (b ∷ bs) (length xs) refl, rest) refl

pub places-walk : (bs : List ℕ) → places bs ≡ walk (end_place []) bs
unfolding places among
places-walk bs = among-walk [] bs

pub lead : (b : ℕ) → (128 ≤ b → 192 ≤ b) → begins_char b ≡ true
lead b h = grind (arith, nat_tests)

-- where a walk along a text ends
unfoldable pub walk_end : Place → List ℕ → Place
walk_end a [] = a
walk_end a (b ∷ bs) = walk_end (place_after a b) bs

pub none_step : (eq : Place → Bool) (a : Place) (us : List Place) (t : Bool) → eq a ≡ false → find eq us ≡ None → find eq (cond t (a ∷ us) us) ≡ None
none_step eq a us true f h = rw f h
none_step eq a us false f h = h
