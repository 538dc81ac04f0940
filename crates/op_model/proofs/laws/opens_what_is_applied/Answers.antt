use Rattle.op_model.proofs.MainLaws.{opens_what_is_applied}
use Rattle.op_model.proofs.laws.opens_what_is_applied.Goals as goal

pub returns : goal.returns
returns c = opens_what_is_applied
