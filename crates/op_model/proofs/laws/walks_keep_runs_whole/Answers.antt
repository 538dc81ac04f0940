use Rattle.op_model.proofs.MainLaws.{walks_keep_runs_whole}
use Rattle.op_model.proofs.laws.walks_keep_runs_whole.Goals as goal

pub returns : goal.returns
returns c = walks_keep_runs_whole
