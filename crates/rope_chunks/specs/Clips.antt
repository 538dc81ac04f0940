-- The places that offsets and points are clipped to.
use Rattle.std.specs.Prelude.{ℕ, List}
use Rattle.tree_cursor.specs.declared.traits.Bias.{Bias}
use Rattle.tree_cursor.specs.declared.traits.Bias.TheVariants.{Left, Right}
use Rattle.text_dims.specs.declared.places.Place.{Place}
use Rattle.text_dims.specs.declared.points.Point.{Point}
use Rattle.text_dims.specs.Places.{offset_clip_back, offset_clip_on, point_clip_back, point_clip_on}

abbrev pub offset_clip : List ℕ → ℕ → Bias → Place
offset_clip bs o Left = offset_clip_back bs o
offset_clip bs o Right = offset_clip_on bs o

-- and the place that a point is clipped to
abbrev pub point_clip : List ℕ → Point → Bias → Place
point_clip bs p Left = point_clip_back bs p
point_clip bs p Right = point_clip_on bs p
