use Rattle.op_model.proofs.MainLaws.{runs_append}
use Rattle.op_model.proofs.laws.runs_append.Goals as goal

pub returns : goal.returns
returns c = runs_append
