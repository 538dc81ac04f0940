-- Points, and how they add.
use Rattle.std.specs.Prelude.{◌+◌, ◌^◌, ◌<◌, ◌==◌, if◌then◌else◌}
use Rattle.text_dims.specs.declared.points.Point.{Point}
use Rattle.text_dims.specs.declared.points.PointUtf16.{PointUtf16}

-- The end of a text that ends at a and is followed by one that ends at b: where b is in row 0 the columns add, else the
-- rows add and b's column stands.
abbrev pub point_sum : Point → Point → Point
point_sum a b =
    if b.row == 0
    then record { row = a.row; column = a.column + b.column }
    else record { row = a.row + b.row; column = b.column }

abbrev pub PointFits : Point → Type 0
PointFits a = (a.row < 2 ^ 64) × (a.column < 2 ^ 64)

-- the same, with columns in UTF-16 units
abbrev pub point_utf16_sum : PointUtf16 → PointUtf16 → PointUtf16
point_utf16_sum a b =
    if b.row == 0
    then record { row = a.row; column = a.column + b.column }
    else record { row = a.row + b.row; column = b.column }

abbrev pub PointUtf16Fits : PointUtf16 → Type 0
PointUtf16Fits a = (a.row < 2 ^ 64) × (a.column < 2 ^ 64)
