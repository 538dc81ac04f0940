use Rattle.op_model.proofs.MainLaws.{same_versions_same_sets}
use Rattle.op_model.proofs.laws.same_versions_same_sets.Goals as goal

pub returns : goal.returns
returns c = same_versions_same_sets
