use Rattle.op_model.proofs.MainLaws.{honest_sets_are_applied_whole}
use Rattle.op_model.proofs.laws.honest_sets_are_applied_whole.Goals as goal

pub returns : goal.returns
returns c = honest_sets_are_applied_whole
