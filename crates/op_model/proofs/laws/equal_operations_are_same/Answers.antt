use Rattle.op_model.proofs.MainLaws.{equal_operations_are_same}
use Rattle.op_model.proofs.laws.equal_operations_are_same.Goals as goal

pub returns : goal.returns
returns c = equal_operations_are_same
