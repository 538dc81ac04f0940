-- Where clips of points go, place by place.
use Rattle.std.proofs.Common.{ℕ, [], ◌≡◌, refl, Option, Some, None, List, Bool, true, false, cond, ◌∷◌, arith, ◌⊎◌, inl, inr}
use Rattle.std.specs.Prelude.{if◌then◌else◌, ◌==◌, find, nat_le, filter, ◌<◌, ◌&&◌, ◌+◌}
use Rattle.std.specs.Option.{unwrap_or}
use Rattle.std.proofs.lemmas.Bool.{ne_eqb}
use Rattle.std.proofs.lemmas.Bool.Decides.{nat_tests}
use Rattle.text_dims.specs.Counts.{newline_count, rows, last_row, is_newline}
use Rattle.text_dims.specs.Places.{end_place, last_place, place_after}
use Rattle.text_dims.specs.declared.places.Place.{Place}
use Rattle.text_dims.specs.declared.points.Point.{Point}

pub begin : ((end_place []).row ≡ 0) × ((end_place []).column ≡ 0)
unfolding end_place newline_count last_row rows
begin = (refl, refl)

-- what is clipped on: the place where a look-up stops, if that is in the row
abbrev pub in_row : ℕ → Option Place → Place → Place
in_row r None before = before
in_row r (Some k) before = if k.row == r then k else before

abbrev pub on_clip : Point → Place → List Place → Place
on_clip p e ks = unwrap_or (find (λ k. nat_le p.column k.column) ks) (last_place e ks)

pub row_step : (r : ℕ) (a : Place) (us : List Place) (t : Bool) → r < a.row → filter (λ k. k.row == r) us ≡ [] → filter (λ k. k.row == r) (cond t (a ∷ us) us) ≡ []
row_step r a us true l h = rw (ne_eqb a.row r (λ z. omega (arith, l, z))) h
row_step r a us false l h = h

-- what is clipped back
abbrev pub back_clip : Point → Place → List Place → Place
back_clip p e ks = last_place e (filter (λ k. nat_le k.column p.column) ks)

pub both_step : (f g : Place → Bool) (k : Place) (ks : List Place) (t : Bool) → g k ≡ t → filter f (filter g ks) ≡ filter (λ x. g x && f x) ks → filter f (filter g (k ∷ ks)) ≡ filter (λ x. g x && f x) (k ∷ ks)
both_step f g k ks true e h = rw (e, h) refl
both_step f g k ks false e h = rw e h

pub both : (f g : Place → Bool) (ks : List Place) → filter f (filter g ks) ≡ filter (λ x. g x && f x) ks
both f g [] = refl
both f g (k ∷ ks) = both_step f g k ks (g k) refl (both f g ks)

pub after_point : (a : Place) (b : ℕ) (t : Bool) → is_newline b ≡ t → ((place_after a b).row ≡ a.row + 1) ⊎ (((place_after a b).row ≡ a.row) × ((place_after a b).column ≡ a.column + 1))
after_point a b true e = inl (rw e refl)
after_point a b false e = inr (rw e refl, rw e refl)

pub at_begin : (p : Point) (a : Place) → a.row ≡ p.row → a.column ≡ 0 → (a.row == p.row && nat_le a.column p.column) ≡ true
at_begin p a r c = grind (arith, nat_tests)
