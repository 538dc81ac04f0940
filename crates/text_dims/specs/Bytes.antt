-- The summaries of an LF, and of bytes without one.
use Rattle.std.specs.Prelude.{ℕ}
use Rattle.text_dims.specs.declared.summary.TextSummary.{TextSummary}

-- of an LF
abbrev pub newline_summary : TextSummary
newline_summary = record {
  len = 1;
  len_utf16 = 1;
  chars = 1;
  lines = record { row = 1; column = 0 };
  first_row_chars = 0;
  last_row_chars = 0;
  last_row_len_utf16 = 0;
  longest_row = 0;
  longest_row_chars = 0;
}

-- of bytes without an LF: how many there are, how many characters they begin, and how many UTF-16 units these have
abbrev pub run_summary : ℕ → ℕ → ℕ → TextSummary
run_summary len chars units = record {
  len = len;
  len_utf16 = units;
  chars = chars;
  lines = record { row = 0; column = len };
  first_row_chars = chars;
  last_row_chars = chars;
  last_row_len_utf16 = units;
  longest_row = 0;
  longest_row_chars = chars;
}
