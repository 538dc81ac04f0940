use Rattle.op_model.proofs.MainLaws.{undos_are_good}
use Rattle.op_model.proofs.laws.undos_are_good.Goals as goal

pub returns : goal.returns
returns c = undos_are_good
