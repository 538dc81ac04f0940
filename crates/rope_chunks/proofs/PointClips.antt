-- Where clips of points go.
use Rattle.std.specs.Prelude.{filter, not, nat_le, nat_lt, ◌==◌, ◌&&◌, ◌||◌, ◌+◌, ◌<◌, ◌≤◌}
use Rattle.std.proofs.Common.{◌≡◌, ℕ, Bool, true, false, cond, None, List, [], ◌∷◌, ◌++◌, length, get_or, refl, ap, sym, subst, ◌∙◌, arith, append_assoc, length-append, ◌⊎◌, ⊎_elim}
use Rattle.std.specs.Str.{IsUtf8}
use Rattle.std.proofs.lemmas.Bool.{cases_lt, eq-eqb, ne_eqb, eqb-true}
use Rattle.std.proofs.lemmas.Bool.Decides.{nat_tests}
use Rattle.std.proofs.lemmas.List.{get_or-append-add}
use Rattle.std.proofs.lemmas.Str.{lead_after_ascii}
use Rattle.tree_cursor.specs.declared.traits.Bias.TheVariants.{Left, Right}
use Rattle.text_dims.specs.declared.places.Place.{Place}
use Rattle.text_dims.specs.declared.points.Point.{Point}
use Rattle.text_dims.specs.Counts.{begins_char, is_newline}
use Rattle.text_dims.specs.Places.{end_place, places, place_after, walk, last_place, point_clip_back, point_clip_on}
use Rattle.text_dims.proofs.Walks.{places-walk, end_place-append, lead, walk_end}
use Rattle.text_dims.proofs.PointClips.{begin, in_row, on_clip, row_step, back_clip, both, after_point, at_begin}
use Rattle.text_dims.proofs.PlaceSums.{walk_end-is}
use Rattle.rope_chunks.specs.declared.look.Stop.{Stop}
use Rattle.rope_chunks.specs.Stops.{stop, stop_place}
use Rattle.rope_chunks.specs.Targets.{passes_point}
use Rattle.rope_chunks.proofs.Stops.{after-later, Begins, Begins-utf8}
use Rattle.rope_chunks.proofs.Clipping.{Upto, clip-walk, either}
use Rattle.rope_chunks.specs.TargetLaws.{point_stays}

-- after each LF a character begins, or the text ends
abbrev pub RowsBegin : List ℕ → Type 0
RowsBegin [] = Unit {0}
RowsBegin (b ∷ bs) = (is_newline b ≡ true → Begins bs) × RowsBegin bs

begins_past : (xs bs : List ℕ) → IsUtf8 (xs ++ 10 ∷ bs) → Begins bs
begins_past xs [] u = tt
begins_past xs (b ∷ bs) u =
    let ws = xs ++ 10 ∷ b ∷ bs in
    let same : length xs ≡ length xs + 0 = omega arith in
    let low : get_or ws (length xs) 0 ≡ 10 = ap (λ i. get_or ws i 0) same ∙ get_or-append-add xs (10 ∷ b ∷ bs) 0 0 in
    let next : get_or ws (length xs + 1) 0 ≡ b = get_or-append-add xs (10 ∷ b ∷ bs) 1 0 in
    lead b (λ h. omega (arith, next, lead_after_ascii ws (length xs) u (omega (arith, low)) (omega (arith, length-append xs (10 ∷ b ∷ bs))) (omega (arith, next, h))))

rows_begin : (xs bs : List ℕ) → IsUtf8 (xs ++ bs) → RowsBegin bs
rows_begin xs [] u = tt
rows_begin xs (b ∷ bs) u =
    let rest : IsUtf8 ((xs ++ b ∷ []) ++ bs) = rw (append_assoc xs (b ∷ []) bs) u in
    (λ e. begins_past xs bs (subst (λ c. IsUtf8 (xs ++ c ∷ bs)) (eqb-true b 10 e) u), rows_begin (xs ++ b ∷ []) bs rest)

-- An answer to a look-up for a point, and what is said of the places of its row: they agree where there is no such row, and
-- where a walk begins with the row.
pub record Agrees (p : Point) (answer : Stop → Place) (clip : Place → List Place → Place) : Type 0 where
  pub none : (e : Place) → answer (record { before = e; here = None }) ≡ clip e []
  pub row : (e d a : Place) (bs : List ℕ) → a.row ≡ p.row → a.column ≡ 0 → Begins bs → answer (stop (λ k. passes_point p k Left) d (walk a bs)) ≡ clip e (filter (λ k. k.row == p.row) (walk a bs))

not_passed : (p : Point) (a : Place) → a.row < p.row → passes_point p a Left ≡ false
not_passed p a l = grind (arith, nat_tests)

skip : (p : Point) (answer : Stop → Place) (clip : Place → List Place → Place) (e d a : Place) (us : List Place) (t : Bool) → a.row < p.row →
    ((x : Place) → answer (stop (λ k. passes_point p k Left) x us) ≡ clip e (filter (λ k. k.row == p.row) us)) →
    answer (stop (λ k. passes_point p k Left) d (cond t (a ∷ us) us)) ≡ clip e (filter (λ k. k.row == p.row) (cond t (a ∷ us) us))
skip p answer clip e d a us true l h = rw (not_passed p a l, ne_eqb a.row p.row (λ z. omega (arith, l, z))) (h a)
skip p answer clip e d a us false l h = h d

turn : (p : Point) (answer : Stop → Place) (clip : Place → List Place → Place) → Agrees p answer clip → (x a : Place) (b : ℕ) (bs : List ℕ) → RowsBegin (b ∷ bs) → a.row < p.row → (t : Bool) → is_newline b ≡ t →
    ((place_after a b).row < p.row → answer (stop (λ k. passes_point p k Left) x (walk (place_after a b) bs)) ≡ clip (walk_end (place_after a b) bs) (filter (λ k. k.row == p.row) (walk (place_after a b) bs))) →
    answer (stop (λ k. passes_point p k Left) x (walk (place_after a b) bs)) ≡ clip (walk_end (place_after a b) bs) (filter (λ k. k.row == p.row) (walk (place_after a b) bs))
turn p answer clip g x a b bs h l true e k =
    ⊎_elim
    (λ (before : a.row + 1 < p.row). k (rw e before))
    (λ (at : p.row ≤ a.row + 1). g.row (walk_end (place_after a b) bs) x (place_after a b) bs (rw e (omega (arith, at, l))) (rw e refl) (h.0 e))
    (cases_lt (a.row + 1) p.row)
turn p answer clip g x a b bs h l false e k = k (rw e l)

reach : (p : Point) (answer : Stop → Place) (clip : Place → List Place → Place) → Agrees p answer clip → (d a : Place) (bs : List ℕ) → RowsBegin bs → a.row < p.row →
    answer (stop (λ k. passes_point p k Left) d (walk a bs)) ≡ clip (walk_end a bs) (filter (λ k. k.row == p.row) (walk a bs))
unfolding walk_end
reach p answer clip g d a [] h l = rw (not_passed p a l, ne_eqb a.row p.row (λ z. omega (arith, l, z))) (g.none a)
reach p answer clip g d a (b ∷ bs) h l =
    skip p answer clip (walk_end (place_after a b) bs) d a (walk (place_after a b) bs) (begins_char b) l
    (λ x. turn p answer clip g x a b bs h l (is_newline b) refl (λ m. reach p answer clip g x (place_after a b) bs h.1 m))

-- so they agree at any text
pub agree : (p : Point) (answer : Stop → Place) (clip : Place → List Place → Place) → Agrees p answer clip → (bs : List ℕ) → IsUtf8 bs →
    answer (stop (λ k. passes_point p k Left) (end_place []) (places bs)) ≡ clip (end_place bs) (filter (λ k. k.row == p.row) (places bs))
agree p answer clip g bs u =
    let end : walk_end (end_place []) bs ≡ end_place bs = walk_end-is (end_place []) bs ∙ sym (end_place-append [] bs) in
    rw (places-walk bs)
    (⊎_elim
    (λ (later : 0 < p.row).
    rw (← end) (reach p answer clip g (end_place []) (end_place []) bs (rows_begin [] bs u) (omega (arith, begin.0, later))))
    (λ (first : p.row ≤ 0). g.row (end_place bs) (end_place []) (end_place []) bs (omega (arith, begin.0, first)) begin.1 (Begins-utf8 bs u))
    (cases_lt 0 p.row))

no_more : (r : ℕ) (a : Place) (bs : List ℕ) → r < a.row → filter (λ k. k.row == r) (walk a bs) ≡ []
no_more r a [] l = rw (ne_eqb a.row r (λ z. omega (arith, l, z))) refl
no_more r a (b ∷ bs) l =
    row_step r a (walk (place_after a b) bs) (begins_char b) l (no_more r (place_after a b) bs (omega (arith, l, (after-later a b).point.0)))

past_is : (p : Point) (a : Place) → p.row < a.row → passes_point p a Left ≡ true
past_is p a l = grind (arith, nat_tests)

in_row_is : (p : Point) (a : Place) → a.row ≡ p.row → passes_point p a Left ≡ nat_le p.column a.column
in_row_is p a e = grind (arith, nat_tests)

on_at : (p : Point) (d a : Place) (us : List Place) (t : Bool) → nat_le p.column a.column ≡ t → a.row ≡ p.row →
    in_row p.row (stop (λ k. passes_point p k Left) a us).here (stop (λ k. passes_point p k Left) a us).before ≡ on_clip p a (filter (λ k. k.row == p.row) us) →
    in_row p.row (stop (λ k. passes_point p k Left) d (a ∷ us)).here (stop (λ k. passes_point p k Left) d (a ∷ us)).before ≡ on_clip p d (filter (λ k. k.row == p.row) (a ∷ us))
on_at p d a us true f e h = rw (in_row_is p a e, eq-eqb a.row p.row e, f, eq-eqb a.row p.row e) refl
on_at p d a us false f e h = rw (in_row_is p a e, eq-eqb a.row p.row e, f) h

on_here : (p : Point) (d a : Place) (us : List Place) → p.row ≤ a.row → (p.row < a.row → filter (λ k. k.row == p.row) us ≡ []) →
    in_row p.row (stop (λ k. passes_point p k Left) a us).here (stop (λ k. passes_point p k Left) a us).before ≡ on_clip p a (filter (λ k. k.row == p.row) us) →
    in_row p.row (stop (λ k. passes_point p k Left) d (a ∷ us)).here (stop (λ k. passes_point p k Left) d (a ∷ us)).before ≡ on_clip p d (filter (λ k. k.row == p.row) (a ∷ us))
on_here p d a us l n h =
    ⊎_elim
    (λ (past : p.row < a.row). rw (past_is p a past, ne_eqb a.row p.row (λ z. omega (arith, past, z)), n past) refl)
    (λ (at : a.row ≤ p.row). on_at p d a us (nat_le p.column a.column) refl (omega (arith, at, l)) h)
    (cases_lt p.row a.row)

on_step : (p : Point) (d a : Place) (us : List Place) (t : Bool) →
    in_row p.row (stop (λ k. passes_point p k Left) d (a ∷ us)).here (stop (λ k. passes_point p k Left) d (a ∷ us)).before ≡ on_clip p d (filter (λ k. k.row == p.row) (a ∷ us)) →
    in_row p.row (stop (λ k. passes_point p k Left) d us).here (stop (λ k. passes_point p k Left) d us).before ≡ on_clip p d (filter (λ k. k.row == p.row) us) →
    in_row p.row (stop (λ k. passes_point p k Left) d (cond t (a ∷ us) us)).here (stop (λ k. passes_point p k Left) d (cond t (a ∷ us) us)).before ≡ on_clip p d (filter (λ k. k.row == p.row) (cond t (a ∷ us) us))
on_step p d a us true h k = h
on_step p d a us false h k = k

on-walk : (p : Point) (d a : Place) (bs : List ℕ) → p.row ≤ a.row →
    in_row p.row (stop (λ k. passes_point p k Left) d (walk a bs)).here (stop (λ k. passes_point p k Left) d (walk a bs)).before ≡ on_clip p d (filter (λ k. k.row == p.row) (walk a bs))
on-walk p d a [] l = on_here p d a [] l (λ m. refl) refl
on-walk p d a (b ∷ bs) l =
    let later = after-later a b in
    let low : p.row ≤ (place_after a b).row = omega (arith, l, later.point.0) in
    on_step p d a (walk (place_after a b) bs) (begins_char b)
    (on_here p d a (walk (place_after a b) bs) l (λ m. no_more p.row (place_after a b) bs (omega (arith, m, later.point.0))) (on-walk p a (place_after a b) bs low))
    (on-walk p d (place_after a b) bs low)

-- a walk that begins with a place of the row does not ask what stands before
on_either : (p : Point) (d e a : Place) (bs : List ℕ) → Begins bs → a.row ≡ p.row → on_clip p d (filter (λ k. k.row == p.row) (walk a bs)) ≡ on_clip p e (filter (λ k. k.row == p.row) (walk a bs))
on_either p d e a [] h r = rw (eq-eqb a.row p.row r) refl
on_either p d e a (b ∷ bs) h r = rw (h, eq-eqb a.row p.row r) refl

on_agrees : (p : Point) → Agrees p (λ s. in_row p.row s.here s.before) (on_clip p)
on_agrees p = record {
  none = λ e. refl;
  row = λ e d a bs r c h. on-walk p d a bs (omega (arith, r)) ∙ on_either p d e a bs h r;
}

pub point_on : (bs : List ℕ) (p : Point) (s : Stop) → IsUtf8 bs → s ≡ stop (λ k. passes_point p k Left) (end_place []) (places bs) → in_row p.row s.here s.before ≡ point_clip_on bs p
point_on bs p s u e = rw e (agree p (λ x. in_row p.row x.here x.before) (on_clip p) (on_agrees p) bs u)

right_left : (p : Point) (k : Place) → passes_point p k Right ≡ true → passes_point p k Left ≡ true
right_left p k h = grind (arith, nat_tests)

upto_is : (p : Point) (k : Place) → p.row ≤ k.row → (k.row == p.row && nat_le k.column p.column) ≡ not (passes_point p k Right)
upto_is p k l = grind (arith, nat_tests)

alone_by : (r c s d t e : ℕ) → (nat_lt r s || (r == s && nat_le c d)) ≡ true → (nat_lt r s || (r == s && nat_lt c d)) ≡ false → (t ≡ s + 1) ⊎ ((t ≡ s) × (e ≡ d + 1)) → (nat_lt r t || (r == t && nat_lt c e)) ≡ true
alone_by r c s d t e h f o = grind (arith, nat_tests)

point_upto : (p : Point) → Upto (λ k. passes_point p k Left) (λ k. passes_point p k Right) (λ k. k.row == p.row && nat_le k.column p.column) p.row
point_upto p = record {
  stays = record { stays = λ a b e l. point_stays p a b Right e l };
  past = λ k h. right_left p k h;
  is = λ k l. upto_is p k l;
  alone = λ k b h f. alone_by p.row p.column k.row k.column (place_after k b).row (place_after k b).column h f (after_point k b (is_newline b) refl);
}

back_agrees : (p : Point) → Agrees p (λ s. stop_place (λ k. passes_point p k Right) s) (back_clip p)
back_agrees p = record {
  none = λ e. refl;
  row = λ e d a bs r c h.
      let q : Place → Bool = λ k. k.row == p.row && nat_le k.column p.column in
      sym (clip-walk (λ k. passes_point p k Left) (λ k. passes_point p k Right) q p.row (point_upto p) d a bs (omega (arith, r)))
      ∙ either q d e a bs h (at_begin p a r c)
      ∙ ap (last_place e) (sym (both (λ k. nat_le k.column p.column) (λ k. k.row == p.row) (walk a bs)));
}

pub point_back : (bs : List ℕ) (p : Point) → IsUtf8 bs → stop_place (λ k. passes_point p k Right) (stop (λ k. passes_point p k Left) (end_place []) (places bs)) ≡ point_clip_back bs p
point_back bs p u = agree p (λ s. stop_place (λ k. passes_point p k Right) s) (back_clip p) (back_agrees p) bs u
