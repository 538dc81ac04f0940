-- A place that is later than one which passes a target passes it too.
use Rattle.std.specs.Prelude.{ℕ, ◌≡◌, true}
use Rattle.std.proofs.Common.{arith}
use Rattle.std.proofs.lemmas.Bool.Decides.{nat_tests}
use Rattle.tree_cursor.specs.declared.traits.Bias.{Bias}
use Rattle.tree_cursor.specs.declared.traits.Bias.TheVariants.{Left, Right}
use Rattle.tree_cursor.specs.CountingLaws.{number_stays}
use Rattle.rope_chunks.specs.At.{RowAndColumn, IsLater}
use Rattle.rope_chunks.specs.Targets.{passes_offset, passes_pair, passes_point, passes_point_utf16, passes_row, passes_utf16}
use Rattle.text_dims.specs.declared.places.Place.{Place}
use Rattle.text_dims.specs.declared.points.OffsetUtf16.{OffsetUtf16}
use Rattle.text_dims.specs.declared.points.Point.{Point}
use Rattle.text_dims.specs.declared.points.PointUtf16.{PointUtf16}

pair_stays : (r c s d t e : ℕ) (bias : Bias) → RowAndColumn s d t e → passes_pair r c s d bias ≡ true → passes_pair r c t e bias ≡ true
pair_stays r c s d t e Left h p = grind (arith, nat_tests)
pair_stays r c s d t e Right h p = grind (arith, nat_tests)

pub offset_stays : (o : ℕ) (p q : Place) (bias : Bias) → passes_offset o p bias ≡ true → IsLater p q → passes_offset o q bias ≡ true
offset_stays o p q bias e l = number_stays o p.offset q.offset bias e l.offset

pub utf16_stays : (u : OffsetUtf16) (p q : Place) (bias : Bias) → passes_utf16 u p bias ≡ true → IsLater p q → passes_utf16 u q bias ≡ true
utf16_stays u p q bias e l = number_stays u.0 p.utf16 q.utf16 bias e l.utf16

pub point_stays : (t : Point) (p q : Place) (bias : Bias) → passes_point t p bias ≡ true → IsLater p q → passes_point t q bias ≡ true
point_stays t p q bias e l = pair_stays t.row t.column p.row p.column q.row q.column bias l.point e

pub point_utf16_stays : (t : PointUtf16) (p q : Place) (bias : Bias) → passes_point_utf16 t p bias ≡ true → IsLater p q → passes_point_utf16 t q bias ≡ true
point_utf16_stays t p q bias e l = pair_stays t.row t.column p.row p.column_utf16 q.row q.column_utf16 bias l.point_utf16 e

pub row_stays : (r : ℕ) (p q : Place) → passes_row r p ≡ true → IsLater p q → passes_row r q ≡ true
row_stays r p q e l = number_stays r p.row q.row Right e l.point.0
