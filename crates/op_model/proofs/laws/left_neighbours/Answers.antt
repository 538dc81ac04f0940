use Rattle.op_model.proofs.MainLaws.{left_neighbours}
use Rattle.op_model.proofs.laws.left_neighbours.Goals as goal

pub returns : goal.returns
returns c = left_neighbours
