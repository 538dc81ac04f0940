use Rattle.op_model.proofs.MainLaws.{settling_ends}
use Rattle.op_model.proofs.laws.settling_ends.Goals as goal

pub returns : goal.returns
returns c = settling_ends
