-- How a text moves a place, and what its type has room for.
use Rattle.std.specs.Prelude.{◌≡◌, ℕ, ◌+◌, ◌^◌, ◌<◌, ◌≤◌, Option, Some}
use Rattle.text_dims.specs.declared.places.Place.{Place}
use Rattle.text_dims.specs.declared.summary.TextSummary.{TextSummary}
use Rattle.text_dims.specs.Places.{place_sum, summary_end}

abbrev pub move_place : Place → TextSummary → Option Place
move_place a s = Some (place_sum a (summary_end s))

-- a is in a row before b, or in the same row at or before b
abbrev pub RowAndColumn : ℕ → ℕ → ℕ → ℕ → Type 0
RowAndColumn r c s d = (r ≤ s) × (r ≡ s → c ≤ d)

-- b is at or past a in each kind of position
pub record IsLater (a b : Place) : Type 0 where
  pub offset : a.offset ≤ b.offset
  pub utf16 : a.utf16 ≤ b.utf16
  pub point : RowAndColumn a.row a.column b.row b.column
  pub point_utf16 : RowAndColumn a.row a.column_utf16 b.row b.column_utf16

-- columns are no more than what is counted from the begin
pub record IsWithin (a : Place) : Type 0 where
  pub column : a.column ≤ a.offset
  pub column_utf16 : a.column_utf16 ≤ a.utf16

pub record PlaceAndTextFit (a : Place) (s : TextSummary) : Type 0 where
  pub place : IsWithin a
  pub text : IsWithin (summary_end s)
  pub offset : a.offset + s.len < 2 ^ 64
  pub utf16 : a.utf16 + s.len_utf16 < 2 ^ 64
  pub row : a.row + s.lines.row < 2 ^ 64
