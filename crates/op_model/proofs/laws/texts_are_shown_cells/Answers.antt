use Rattle.op_model.proofs.MainLaws.{texts_are_shown_cells}
use Rattle.op_model.proofs.laws.texts_are_shown_cells.Goals as goal

pub returns : goal.returns
returns c = texts_are_shown_cells
