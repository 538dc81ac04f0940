use Rattle.op_model.proofs.MainLaws.{each_cell_once}
use Rattle.op_model.proofs.laws.each_cell_once.Goals as goal

pub returns : goal.returns
returns c = each_cell_once
