use Rattle.op_model.proofs.MainLaws.{runs_stay_lawful}
use Rattle.op_model.proofs.laws.runs_stay_lawful.Goals as goal

pub returns : goal.returns
returns c = runs_stay_lawful
