use Rattle.op_model.proofs.MainLaws.{boundaries_are_std}
use Rattle.op_model.proofs.laws.boundaries_are_std.Goals as goal

pub returns : goal.returns
returns c = boundaries_are_std
