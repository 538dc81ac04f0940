use Rattle.op_model.proofs.MainLaws.{opened_sets_are_applied_whole}
use Rattle.op_model.proofs.laws.opened_sets_are_applied_whole.Goals as goal

pub returns : goal.returns
returns c = opened_sets_are_applied_whole
