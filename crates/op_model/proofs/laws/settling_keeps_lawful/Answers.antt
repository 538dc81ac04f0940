use Rattle.op_model.proofs.MainLaws.{settling_keeps_lawful}
use Rattle.op_model.proofs.laws.settling_keeps_lawful.Goals as goal

pub returns : goal.returns
returns c = settling_keeps_lawful
