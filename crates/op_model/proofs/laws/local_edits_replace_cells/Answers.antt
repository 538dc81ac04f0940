use Rattle.op_model.proofs.MainLaws.{local_edits_replace_cells}
use Rattle.op_model.proofs.laws.local_edits_replace_cells.Goals as goal

pub returns : goal.returns
returns c = local_edits_replace_cells
