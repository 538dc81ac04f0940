use Rattle.op_model.proofs.MainLaws.{one_walk}
use Rattle.op_model.proofs.laws.one_walk.Goals as goal

pub returns : goal.returns
returns c = one_walk
