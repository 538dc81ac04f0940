-- Where clips go, place by place.
use Rattle.std.proofs.Common.{ℕ, [], ◌≡◌, true, false, cond, List, ◌∷◌, refl, Bool, arith}
use Rattle.std.specs.Prelude.{filter, ◌+◌, nat_le}
use Rattle.std.proofs.lemmas.Bool.Decides.{nat_tests}
use Rattle.text_dims.specs.declared.places.Place.{Place}
use Rattle.text_dims.specs.Counts.{begins_char, byte_units, is_newline}
use Rattle.text_dims.specs.Places.{place_after, walk, last_place, end_place}

pub last-walk : (d e a : Place) (bs : List ℕ) → last_place d (walk a bs) ≡ last_place e (walk a bs)
last-walk d e a [] = refl
last-walk d e a (b ∷ bs) = elim (begins_char b) as (λ t. last_place d (cond t (a ∷ walk (place_after a b) bs) (walk (place_after a b) bs)) ≡ last_place e (cond t (a ∷ walk (place_after a b) bs) (walk (place_after a b) bs))) [
  | true ↦ refl
  | false ↦ last-walk d e (place_after a b) bs
]

pub none_step : (q : Place → Bool) (d a : Place) (us : List Place) (t : Bool) → q a ≡ false → last_place d (filter q us) ≡ d → last_place d (filter q (cond t (a ∷ us) us)) ≡ d
none_step q d a us true e h = rw e h
none_step q d a us false e h = h

pub after_offset : (a : Place) (b : ℕ) → (place_after a b).offset ≡ a.offset + 1
after_offset a b = elim (is_newline b) as (λ t. (cond {A = Place} t (record { offset = a.offset + 1; utf16 = a.utf16 + 1; row = a.row + 1; column = 0; column_utf16 = 0 }) (record { offset = a.offset + 1; utf16 = a.utf16 + byte_units b; row = a.row; column = a.column + 1; column_utf16 = a.column_utf16 + byte_units b })).offset ≡ a.offset + 1) [ true ↦ refl | false ↦ refl ]

pub at_zero : (o : ℕ) → nat_le (end_place []).offset o ≡ true
unfolding end_place
at_zero o = grind (arith, nat_tests)
