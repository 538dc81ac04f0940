use Rattle.seen_text.proofs.Edits.{cells_begin}
use Rattle.seen_text.proofs.laws.cells_begin_as_in_their_edits.Goals as goal

pub returns : goal.returns
returns c = cells_begin
