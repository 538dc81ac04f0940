use Rattle.op_model.proofs.MainLaws.{same_sets_refuse_alike}
use Rattle.op_model.proofs.laws.same_sets_refuse_alike.Goals as goal

pub returns : goal.returns
returns c = same_sets_refuse_alike
