use Rattle.op_model.proofs.MainLaws.{new_cells_shown}
use Rattle.op_model.proofs.laws.new_cells_shown.Goals as goal

pub returns : goal.returns
returns c = new_cells_shown
