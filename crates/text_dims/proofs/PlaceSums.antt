-- Sums of places, and of the ends of texts.
use Rattle.std.proofs.Common.{◌≡◌, ℕ, ◌+◌, ◌<◌, Bool, true, false, cond, eqb, List, [], ◌∷◌, length, take, get_or, refl, sym, ap, ◌∙◌, arith, add_assoc}
use Rattle.std.proofs.lemmas.Bool.Decides.{nat_tests}
use Rattle.std.proofs.lemmas.Bool.{eqb-true}
use Rattle.std.proofs.lemmas.List.{take_more}
use Rattle.text_dims.specs.declared.places.Place.{Place}
use Rattle.text_dims.specs.Summaries.{no_text, text_sum, summary_of}
use Rattle.text_dims.specs.Places.{place_sum, summary_end, end_place, place_after}
use Rattle.text_dims.specs.declared.points.Point.{Point}
use Rattle.text_dims.specs.Points.{point_sum}
use Rattle.text_dims.specs.declared.summary.TextSummary.{TextSummary}
use Rattle.text_dims.proofs.Walks.{summary_end-is, by_byte, end_place-append, walk_end}
use Rattle.text_dims.specs.Monoid.{summary-nil}
use Rattle.text_dims.specs.Counts.{is_newline}

plus_none : (n : ℕ) → n + 0 ≡ n
plus_none n = omega arith

pub past_nothing : (p : Place) → place_sum p (summary_end no_text) ≡ p
past_nothing p = rw (plus_none p.offset, plus_none p.utf16, plus_none p.row, plus_none p.column, plus_none p.column_utf16) refl

column_assoc : (a b c x y : ℕ) → cond (eqb y 0) (cond (eqb x 0) (a + b) b + c) c ≡ cond (eqb (x + y) 0) (a + cond (eqb y 0) (b + c) c) (cond (eqb y 0) (b + c) c)
column_assoc a b c x y = grind (arith, nat_tests)

pub place_sum_assoc : (p x y : Place) → place_sum (place_sum p x) y ≡ place_sum p (place_sum x y)
place_sum_assoc p x y =
    rw (add_assoc p.offset x.offset y.offset, add_assoc p.utf16 x.utf16 y.utf16, add_assoc p.row x.row y.row, column_assoc p.column x.column y.column x.row y.row, column_assoc p.column_utf16 x.column_utf16 y.column_utf16 x.row y.row)
    refl

row_by : (a b : Point) (t : Bool) → eqb b.row 0 ≡ t → (cond {A = Point} t (record { row = a.row; column = a.column + b.column }) (record { row = a.row + b.row; column = b.column })).row ≡ a.row + b.row
row_by a b true e = omega (arith, eqb-true b.row 0 e)
row_by a b false e = refl

column_by : (a b : Point) (t : Bool) → (cond {A = Point} t (record { row = a.row; column = a.column + b.column }) (record { row = a.row + b.row; column = b.column })).column ≡ cond t (a.column + b.column) b.column
column_by a b true = refl
column_by a b false = refl

pub row_sum : (a b : Point) → (point_sum a b).row ≡ a.row + b.row
row_sum a b = row_by a b (eqb b.row 0) refl

column_sum : (a b : Point) → (point_sum a b).column ≡ cond (eqb b.row 0) (a.column + b.column) b.column
column_sum a b = column_by a b (eqb b.row 0)

place : ℕ → ℕ → ℕ → ℕ → ℕ → Place
place offset utf16 row column column_utf16 = record { offset = offset; utf16 = utf16; row = row; column = column; column_utf16 = column_utf16 }

pub summary_end-sum : (a b : TextSummary) → summary_end (text_sum a b) ≡ place_sum (summary_end a) (summary_end b)
unfolding place
summary_end-sum a b =
    ap (λ r. place (a.len + b.len) (a.len_utf16 + b.len_utf16) r (point_sum a.lines b.lines).column (text_sum a b).last_row_len_utf16) (row_sum a.lines b.lines)
    ∙ ap (λ c. place (a.len + b.len) (a.len_utf16 + b.len_utf16) (a.lines.row + b.lines.row) c (text_sum a b).last_row_len_utf16) (column_sum a.lines b.lines)

nothing_past : (a : Place) → place_sum a (end_place []) ≡ a
nothing_past a = ap (place_sum a) (sym (summary_end-is []) ∙ ap summary_end summary-nil) ∙ past_nothing a

pub walk_end-is : (a : Place) (bs : List ℕ) → walk_end a bs ≡ place_sum a (end_place bs)
unfolding walk_end
walk_end-is a [] = sym (nothing_past a)
walk_end-is a (b ∷ bs) =
    walk_end-is (place_after a b) bs
    ∙ ap (λ k. place_sum k (end_place bs)) (sym (by_byte a b (is_newline b) refl))
    ∙ place_sum_assoc a (end_place (b ∷ [])) (end_place bs)
    ∙ ap (place_sum a) (sym (end_place-append (b ∷ []) bs))

-- the place behind a text
pub chunk_end : (a : Place) (c : List ℕ) → place_sum a (summary_end (summary_of c)) ≡ walk_end a c
chunk_end a c = ap (place_sum a) (summary_end-is c) ∙ sym (walk_end-is a c)

-- one byte more
pub next_is : (a : Place) (bs : List ℕ) (n : ℕ) → n < length bs → place_after (place_sum a (end_place (take n bs))) (get_or bs n 0) ≡ place_sum a (end_place (take (n + 1) bs))
next_is a bs n h =
    let b = get_or bs n 0 in
    sym (by_byte (place_sum a (end_place (take n bs))) b (eqb b 10) refl)
    ∙ place_sum_assoc a (end_place (take n bs)) (end_place (b ∷ []))
    ∙ ap (place_sum a) (sym (end_place-append (take n bs) (b ∷ [])) ∙ ap end_place (sym (take_more bs n 0 h)))
