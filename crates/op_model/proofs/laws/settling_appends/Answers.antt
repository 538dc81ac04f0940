use Rattle.op_model.proofs.MainLaws.{settling_appends}
use Rattle.op_model.proofs.laws.settling_appends.Goals as goal

pub returns : goal.returns
returns c = settling_appends
