use Rattle.op_model.proofs.MainLaws.{same_sets_agree}
use Rattle.op_model.proofs.laws.same_sets_agree.Goals as goal

pub returns : goal.returns
returns c = same_sets_agree
