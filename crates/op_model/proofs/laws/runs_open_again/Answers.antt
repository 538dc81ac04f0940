use Rattle.op_model.proofs.MainLaws.{runs_open_again}
use Rattle.op_model.proofs.laws.runs_open_again.Goals as goal

pub returns : goal.returns
returns c = runs_open_again
