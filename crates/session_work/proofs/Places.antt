-- The place at an offset, in all kinds of position.
use Rattle.std.proofs.Common.{◌≡◌, ℕ, List, Option, None, Some, refl, ap, ◌∙◌}
use Rattle.std.specs.Option.{option_map}
use Rattle.text_dims.specs.declared.places.Place.{Place}
use Rattle.text_dims.specs.declared.points.Point.{Point}
use Rattle.text_dims.specs.declared.points.PointUtf16.{PointUtf16}
use Rattle.text_dims.specs.declared.points.OffsetUtf16.{OffsetUtf16}
use Rattle.text_dims.specs.Places.{offset_utf16_of, place_at_offset, place_at_point, point_of, point_utf16_of}
use Rattle.text_dims.proofs.PlacePoints.{place_at_its_point}
use Rattle.session_lines.specs.declared.report.PointAnswer.TheVariants as point
use Rattle.session_work.specs.Queries.{place_answer}

module _ (bs : List ℕ) (o : ℕ) where
  by_place : (k : Option Place) → place_at_offset bs o ≡ k → (p : Point) (u : OffsetUtf16) (q : PointUtf16) → Some p ≡ option_map point_of k → Some u ≡ option_map offset_utf16_of k
      → Some q ≡ option_map point_utf16_of (place_at_point bs p) → Some (point.Point p u q) ≡ option_map place_answer k
  by_place None e p u q f g h = absurd (cc f)
  by_place (Some k) e p u q f g h =
      let one : p ≡ point_of k = cc f in
      let two : u ≡ offset_utf16_of k = cc g in
      let same : place_at_point bs p ≡ Some k = ap (place_at_point bs) one ∙ place_at_its_point bs o k e in
      let last : Some q ≡ Some (point_utf16_of k) = h ∙ ap (option_map point_utf16_of) same in
      let three : q ≡ point_utf16_of k = cc last in
      cc (one, two, three)

  pub place_found : (p : Point) (u : OffsetUtf16) (q : PointUtf16) → Some p ≡ option_map point_of (place_at_offset bs o) → Some u ≡ option_map offset_utf16_of (place_at_offset bs o)
      → Some q ≡ option_map point_utf16_of (place_at_point bs p) → Some (point.Point p u q) ≡ option_map place_answer (place_at_offset bs o)
  place_found p u q f g h = by_place (place_at_offset bs o) refl p u q f g h

  no_point_by : (k : Option Place) → place_at_offset bs o ≡ k → (p : Point) → Some p ≡ option_map point_of k → None ≡ option_map point_utf16_of (place_at_point bs p) → ⊥
  no_point_by None e p f h = absurd (cc f)
  no_point_by (Some k) e p f h =
      let one : p ≡ point_of k = cc f in
      let same : place_at_point bs p ≡ Some k = ap (place_at_point bs) one ∙ place_at_its_point bs o k e in
      let last : None ≡ Some (point_utf16_of k) = h ∙ ap (option_map point_utf16_of) same in
      cc last

  -- the point of a place is a point of the text
  pub no_point : (p : Point) → Some p ≡ option_map point_of (place_at_offset bs o) → None ≡ option_map point_utf16_of (place_at_point bs p) → ⊥
  no_point p f h = no_point_by (place_at_offset bs o) refl p f h
