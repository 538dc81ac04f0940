-- Places of a text, in all kinds of position.
use Rattle.std.specs.Prelude.{ℕ, List, ◌==◌, if◌then◌else◌, Option, None, Some}
use Rattle.std.specs.Option.{option_map}
use Rattle.text_dims.specs.declared.places.Place.{Place}
use Rattle.text_dims.specs.Places.{place_at_offset, place_at_point, place_at_point_utf16, place_at_utf16}
use Rattle.op_model.specs.declared.operation.Operation.{Operation}
use Rattle.op_model.specs.Shown.{text}
use Rattle.c_values.specs.declared.answer.Answer.{Answer}
use Rattle.c_values.specs.declared.answer.Code.TheVariants.{Done, NoPlace, OutOfRange}
use Rattle.c_values.specs.Answers.{bare}
use Rattle.buffer_handles.specs.declared.positions.Position.{Position}
use Rattle.buffer_handles.specs.declared.positions.Kind.{Kind}
use Rattle.buffer_handles.specs.declared.positions.Kind.TheVariants.{Offset, Utf16, Point, PointUtf16}

abbrev pub kind_at : ℕ → Option Kind
kind_at n =
    if n == 0 then Some Offset
    else if n == 1 then Some Utf16
    else if n == 2 then Some Point
    else if n == 3 then Some PointUtf16
    else None

-- the place that a number names, with a column where the kind has rows
abbrev pub place_named : List ℕ → Kind → ℕ → ℕ → Option Place
place_named t Offset n column = place_at_offset t n
place_named t Utf16 n column = place_at_utf16 t (record { 0 = n })
place_named t Point n column = place_at_point t (record { row = n; column = column })
place_named t PointUtf16 n column = place_at_point_utf16 t (record { row = n; column = column })

abbrev pub flat_place : Place → Position
flat_place k = record {
  offset = k.offset;
  utf16 = k.utf16;
  row = k.row;
  column = k.column;
  column_utf16 = k.column_utf16;
}

-- the same in all kinds
abbrev pub position_named : List ℕ → Kind → ℕ → ℕ → Option Position
position_named t kind n column = option_map flat_place (place_named t kind n column)

-- ---- by the number of a kind

abbrev pub position_by : List ℕ → Option Kind → ℕ → ℕ → Option Position
position_by t None n column = None
position_by t (Some kind) n column = position_named t kind n column

-- the position in the text of a snapshot that a handle holds
abbrev pub position_inside : Option (List Operation) → ℕ → ℕ → ℕ → Option Position
position_inside None kind n column = None
position_inside (Some h) kind n column = position_by (text h) (kind_at kind) n column

abbrev pub found : Option Position → Answer
found None = bare NoPlace
found (Some p) = bare Done

abbrev pub position_answer_by : List ℕ → Option Kind → ℕ → ℕ → Answer
position_answer_by t None n column = bare OutOfRange
position_answer_by t (Some kind) n column = found (position_named t kind n column)

abbrev pub position_answer : List Operation → ℕ → ℕ → ℕ → Answer
position_answer h kind n column = position_answer_by (text h) (kind_at kind) n column
