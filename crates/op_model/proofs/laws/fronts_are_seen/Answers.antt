use Rattle.op_model.proofs.MainLaws.{fronts_are_seen}
use Rattle.op_model.proofs.laws.fronts_are_seen.Goals as goal

pub returns : goal.returns
returns c = fronts_are_seen
