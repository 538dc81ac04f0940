use Rattle.op_model.proofs.MainLaws.{settling_goes_on}
use Rattle.op_model.proofs.laws.settling_goes_on.Goals as goal

pub returns : goal.returns
returns c = settling_goes_on
