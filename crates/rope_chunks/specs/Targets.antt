-- Which places are at or past a target (Left), or strictly past it (Right).
use Rattle.std.specs.Prelude.{ℕ, ◌==◌, ◌&&◌, ◌||◌, Bool, nat_lt}
use Rattle.tree_cursor.specs.Counting.{number_passes}
use Rattle.tree_cursor.specs.declared.traits.Bias.{Bias}
use Rattle.text_dims.specs.declared.places.Place.{Place}
use Rattle.text_dims.specs.declared.points.Point.{Point}
use Rattle.text_dims.specs.declared.points.PointUtf16.{PointUtf16}
use Rattle.text_dims.specs.declared.points.OffsetUtf16.{OffsetUtf16}

-- a row and a column are at or past others, or strictly
abbrev pub passes_pair : ℕ → ℕ → ℕ → ℕ → Bias → Bool
passes_pair r c s d bias = nat_lt r s || (r == s && number_passes c d bias)

abbrev pub passes_offset : ℕ → Place → Bias → Bool
passes_offset o k bias = number_passes o k.offset bias

abbrev pub passes_utf16 : OffsetUtf16 → Place → Bias → Bool
passes_utf16 u k bias = number_passes u.0 k.utf16 bias

abbrev pub passes_point : Point → Place → Bias → Bool
passes_point p k bias = passes_pair p.row p.column k.row k.column bias

abbrev pub passes_point_utf16 : PointUtf16 → Place → Bias → Bool
passes_point_utf16 p k bias = passes_pair p.row p.column k.row k.column_utf16 bias

abbrev pub passes_row : ℕ → Place → Bool
passes_row r k = nat_lt r k.row
