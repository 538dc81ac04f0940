use Rattle.op_model.proofs.MainLaws.{walks_leave_cells}
use Rattle.op_model.proofs.laws.walks_leave_cells.Goals as goal

pub returns : goal.returns
returns c = walks_leave_cells
