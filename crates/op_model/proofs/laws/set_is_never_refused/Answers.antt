use Rattle.op_model.proofs.MainLaws.{set_is_never_refused}
use Rattle.op_model.proofs.laws.set_is_never_refused.Goals as goal

pub returns : goal.returns
returns c = set_is_never_refused
