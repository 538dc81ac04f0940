-- Where a text ends, by its summary.
use Rattle.std.proofs.Common.{ℕ, ◌≡◌, List, refl, length, ◌+◌, sym, ◌≤◌}
use Rattle.text_dims.specs.Summaries.{summary_of, end_point}
use Rattle.text_dims.specs.Counts.{rows}
use Rattle.text_dims.specs.Rows.{length-rows}
use Rattle.text_dims.specs.Bounds.{newline_count-le}

pub end_is : (bs : List ℕ) → (summary_of bs).lines ≡ end_point bs
unfolding summary_of
end_is bs = refl

pub bytes_are : (bs : List ℕ) → (summary_of bs).len ≡ length bs
unfolding summary_of
bytes_are bs = refl

pub rows_are : (bs : List ℕ) → (summary_of bs).lines.row + 1 ≡ length (rows bs)
unfolding summary_of end_point
rows_are bs = sym (length-rows bs)

pub last_row_within : (bs : List ℕ) → (summary_of bs).lines.row ≤ length bs
unfolding summary_of end_point
last_row_within bs = newline_count-le bs
