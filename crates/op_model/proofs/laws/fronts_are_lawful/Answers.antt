use Rattle.op_model.proofs.MainLaws.{fronts_are_lawful}
use Rattle.op_model.proofs.laws.fronts_are_lawful.Goals as goal

pub returns : goal.returns
returns c = fronts_are_lawful
