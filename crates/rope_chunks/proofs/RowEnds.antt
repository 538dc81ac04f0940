-- Where a look-up for the end of a row stops.
use Rattle.std.specs.Prelude.{slice_get, nat_lt, ◌+◌, ◌<◌}
use Rattle.std.proofs.Common.{◌≡◌, ℕ, zero, suc, Bool, true, false, cond, eqb, Option, Some, None, List, [], ◌∷◌, length, refl, ap, ◌∙◌, arith}
use Rattle.std.specs.List.{slice_split, onto_first}
use Rattle.std.specs.Option.{option_map}
use Rattle.std.proofs.lemmas.Bool.{lt-ltb, le-ltb, eq-eqb, ne_eqb, eqb-true}
use Rattle.text_dims.specs.declared.places.Place.{Place}
use Rattle.text_dims.specs.Counts.{begins_char, is_newline, rows}
use Rattle.text_dims.specs.Rows.{Begun, split_begun}
use Rattle.text_dims.specs.Places.{end_place, places, place_after, walk, row_len_of}
use Rattle.text_dims.proofs.Walks.{places-walk}
use Rattle.text_dims.proofs.PointClips.{begin}
use Rattle.rope_chunks.specs.declared.look.Stop.{Stop}
use Rattle.rope_chunks.specs.Stops.{stop}
use Rattle.rope_chunks.specs.Targets.{passes_row}
use Rattle.rope_chunks.proofs.Stops.{after-later}

-- the column of a place in this row
abbrev pub told : ℕ → Place → Option ℕ
told r k = cond (eqb k.row r) (Some k.column) None

-- how many bytes one of the rows has, where c more stand before the first of them
abbrev len_of : ℕ → ℕ → List (List ℕ) → Option ℕ
len_of c n [] = None
len_of c zero (r ∷ rs) = Some (c + length r)
len_of c (suc n) (r ∷ rs) = option_map length (slice_get rs n)

len_of-zero : (n : ℕ) (rs : List (List ℕ)) → len_of 0 n rs ≡ option_map length (slice_get rs n)
len_of-zero n [] = refl
len_of-zero zero (r ∷ rs) = ap (λ m. Some m) (omega arith)
len_of-zero (suc n) (r ∷ rs) = refl

len_of-onto : (c n b : ℕ) (rs : List (List ℕ)) → Begun rs → len_of (c + 1) n rs ≡ len_of c n (onto_first b rs)
len_of-onto c zero b rs h = rw h.is (ap (λ m. Some m) (omega arith))
len_of-onto c (suc n) b rs h = rw h.is refl

past_step : (r : ℕ) (d a : Place) (us : List Place) (t : Bool) → nat_lt r a.row ≡ true → (stop (λ k. passes_row r k) d us).before ≡ d → (stop (λ k. passes_row r k) d (cond t (a ∷ us) us)).before ≡ d
past_step r d a us true p h = rw p refl
past_step r d a us false p h = h

past_row : (r : ℕ) (d a : Place) (bs : List ℕ) → r < a.row → (stop (λ k. passes_row r k) d (walk a bs)).before ≡ d
past_row r d a [] h = rw (lt-ltb r a.row h) refl
past_row r d a (b ∷ bs) h =
    let l = after-later a b in
    let next : r < (place_after a b).row = omega (arith, l.point.0) in
    past_step r d a (walk (place_after a b) bs) (begins_char b) (lt-ltb r a.row h) (past_row r d (place_after a b) bs next)

at_end : (r n : ℕ) (d a : Place) → a.row + n ≡ r → told r (stop (λ k. passes_row r k) d (walk a [])).before ≡ len_of a.column n ([] ∷ [])
at_end r zero d a e =
    rw (le-ltb r a.row (omega (arith, e)), eq-eqb a.row r (omega (arith, e))) (ap (λ m. Some m) (omega arith))
at_end r (suc n) d a e = rw (le-ltb r a.row (omega (arith, e)), ne_eqb a.row r (λ z. omega (arith, e, z))) refl

at_newline : (r n : ℕ) (d a : Place) (bs : List ℕ) → a.row + n ≡ r →
    ((m : ℕ) → a.row + 1 + m ≡ r → told r (stop (λ k. passes_row r k) a (walk (place_after a 10) bs)).before ≡ len_of 0 m (slice_split is_newline bs)) →
    told r (stop (λ k. passes_row r k) d (walk a (10 ∷ bs))).before ≡ len_of a.column n (slice_split is_newline (10 ∷ bs))
at_newline r zero d a bs e h =
    let next : r < (place_after a 10).row = omega (arith, e) in
    rw (le-ltb r a.row (omega (arith, e)), past_row r a (place_after a 10) bs next, eq-eqb a.row r (omega (arith, e))) (ap (λ m. Some m) (omega arith))
at_newline r (suc n) d a bs e h =
    rw (le-ltb r a.row (omega (arith, e))) (h n (omega (arith, e)) ∙ len_of-zero n (slice_split is_newline bs))

at_other : (r n : ℕ) (d a : Place) (us : List Place) (t : Bool) (x : Option ℕ) → a.row + n ≡ r →
    told r (stop (λ k. passes_row r k) a us).before ≡ x → told r (stop (λ k. passes_row r k) d us).before ≡ x →
    told r (stop (λ k. passes_row r k) d (cond t (a ∷ us) us)).before ≡ x
at_other r n d a us true x e h k = rw (le-ltb r a.row (omega (arith, e))) h
at_other r n d a us false x e h k = k

at_byte : (r n b : ℕ) (d a : Place) (bs : List ℕ) (t : Bool) → is_newline b ≡ t → a.row + n ≡ r →
    ((m : ℕ) (e : Place) → (place_after a b).row + m ≡ r → told r (stop (λ k. passes_row r k) e (walk (place_after a b) bs)).before ≡ len_of (place_after a b).column m (slice_split is_newline bs)) →
    told r (stop (λ k. passes_row r k) d (walk a (b ∷ bs))).before ≡ len_of a.column n (slice_split is_newline (b ∷ bs))
at_byte r n b d a bs true f e h =
    let is = eqb-true b 10 f in
    rw is (at_newline r n d a bs e (λ m q. rw is at h m a q))
at_byte r n b d a bs false f e h =
    let next : (x : Place) → told r (stop (λ k. passes_row r k) x (walk (place_after a b) bs)).before ≡ len_of a.column n (slice_split is_newline (b ∷ bs)) =
    λ x. h n x (rw f e) ∙ rw f (len_of-onto a.column n b (slice_split is_newline bs) (split_begun bs)) in
    at_other r n d a (walk (place_after a b) bs) (begins_char b) (len_of a.column n (slice_split is_newline (b ∷ bs))) e (next a) (next d)

ends : (r n : ℕ) (d a : Place) (bs : List ℕ) → a.row + n ≡ r → told r (stop (λ k. passes_row r k) d (walk a bs)).before ≡ len_of a.column n (slice_split is_newline bs)
ends r n d a [] e = at_end r n d a e
ends r n d a (b ∷ bs) e = at_byte r n b d a bs (is_newline b) refl e (λ m x q. ends r m x (place_after a b) bs q)

pub row_end : (bs : List ℕ) (r : ℕ) (s : Stop) → s ≡ stop (λ k. passes_row r k) (end_place []) (places bs) → told r s.before ≡ row_len_of bs r
unfolding rows
row_end bs r s e =
    rw (e, places-walk bs)
    (ends r r (end_place []) (end_place []) bs (omega (arith, begin.0)) ∙ rw begin.1 (len_of-zero r (slice_split is_newline bs)))
