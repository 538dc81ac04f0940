use Rattle.std.proofs.Common.{refl}
use Rattle.text_dims.specs.Counts.{utf16_count, newline_count, rows, last_row}
use Rattle.text_dims.specs.Places.{end_place}
use Rattle.rope_chunks.proofs.at.At.start.Goals as goal

pub returns : goal.returns
unfolding end_place utf16_count newline_count last_row rows
returns c = refl
