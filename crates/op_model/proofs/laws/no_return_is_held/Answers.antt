use Rattle.op_model.proofs.MainLaws.{no_return_is_held}
use Rattle.op_model.proofs.laws.no_return_is_held.Goals as goal

pub returns : goal.returns
returns c = no_return_is_held
