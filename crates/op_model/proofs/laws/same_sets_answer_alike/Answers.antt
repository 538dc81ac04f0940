use Rattle.op_model.proofs.MainLaws.{same_sets_answer_alike}
use Rattle.op_model.proofs.laws.same_sets_answer_alike.Goals as goal

pub returns : goal.returns
returns c = same_sets_answer_alike
