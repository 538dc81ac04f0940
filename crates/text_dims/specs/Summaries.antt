-- The summary of a text, and how summaries add.
use Rattle.std.specs.Prelude.{◌≡◌, ℕ, ◌+◌, ◌^◌, ◌<◌, ◌==◌, nat_lt, if◌then◌else◌, List, length, map}
use Rattle.text_dims.specs.declared.points.Point.{Point}
use Rattle.text_dims.specs.declared.summary.TextSummary.{TextSummary}
use Rattle.text_dims.specs.declared.summary.Row.{Row}
use Rattle.text_dims.specs.Points.{point_sum, PointFits}
use Rattle.text_dims.specs.Counts.{char_count, utf16_count, newline_count, rows, first_row, last_row, greatest, first_greatest}

-- the point of the text's end: the LFs before it, and the bytes since the last of them
unfoldable pub end_point : List ℕ → Point
end_point bs = record { row = newline_count bs; column = length (last_row bs) }

-- how many characters each row has
unfoldable pub row_chars : List ℕ → List ℕ
row_chars bs = map char_count (rows bs)

-- The plain counts of a text. A row's characters are counted without its LF, and the longest row is the first among the
-- rows with most characters.
unfoldable pub summary_of : List ℕ → TextSummary
summary_of bs = record {
  len = length bs;
  len_utf16 = utf16_count bs;
  chars = char_count bs;
  lines = end_point bs;
  first_row_chars = char_count (first_row bs);
  last_row_chars = char_count (last_row bs);
  last_row_len_utf16 = utf16_count (last_row bs);
  longest_row = first_greatest (row_chars bs);
  longest_row_chars = greatest (row_chars bs);
}

-- the second row where it has more characters, else the first
abbrev pub longer : Row → Row → Row
longer r s = if nat_lt r.chars s.chars then s else r

-- the longest row of two texts, one after the other: of the first text, the row that the seam joins, and the second text
abbrev pub longest : TextSummary → TextSummary → Row
longest a b =
    let before : Row = record { number = a.longest_row; chars = a.longest_row_chars } in
    let joined : Row = record { number = a.lines.row; chars = a.last_row_chars + b.first_row_chars } in
    let after : Row = record { number = a.lines.row + b.longest_row; chars = b.longest_row_chars } in
    longer (longer before joined) after

-- the summary of a text of summary a followed by one of summary b
abbrev pub text_sum : TextSummary → TextSummary → TextSummary
text_sum a b = record {
  len = a.len + b.len;
  len_utf16 = a.len_utf16 + b.len_utf16;
  chars = a.chars + b.chars;
  lines = point_sum a.lines b.lines;
  first_row_chars = if a.lines.row == 0 then a.first_row_chars + b.first_row_chars else a.first_row_chars;
  last_row_chars = if b.lines.row == 0 then a.last_row_chars + b.last_row_chars else b.last_row_chars;
  last_row_len_utf16 = if b.lines.row == 0 then a.last_row_len_utf16 + b.last_row_len_utf16 else b.last_row_len_utf16;
  longest_row = (longest a b).number;
  longest_row_chars = (longest a b).chars;
}

abbrev pub no_text : TextSummary
no_text = record {
  len = 0;
  len_utf16 = 0;
  chars = 0;
  lines = record { row = 0; column = 0 };
  first_row_chars = 0;
  last_row_chars = 0;
  last_row_len_utf16 = 0;
  longest_row = 0;
  longest_row_chars = 0;
}

-- some text has this summary
abbrev pub IsOfText : TextSummary → Type 0
IsOfText s = (bs : List ℕ) × (s ≡ summary_of bs)

-- each of the numbers is below 2 ^ 64
pub record TextFits (s : TextSummary) : Type 0 where
  pub len : s.len < 2 ^ 64
  pub len_utf16 : s.len_utf16 < 2 ^ 64
  pub chars : s.chars < 2 ^ 64
  pub lines : PointFits s.lines
  pub first_row_chars : s.first_row_chars < 2 ^ 64
  pub last_row_chars : s.last_row_chars < 2 ^ 64
  pub last_row_len_utf16 : s.last_row_len_utf16 < 2 ^ 64
  pub longest_row : s.longest_row < 2 ^ 64
  pub longest_row_chars : s.longest_row_chars < 2 ^ 64
