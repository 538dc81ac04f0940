use Rattle.op_model.proofs.MainLaws.{set_is_applied_whole}
use Rattle.op_model.proofs.laws.set_is_applied_whole.Goals as goal

pub returns : goal.returns
returns c = set_is_applied_whole
