use Rattle.op_model.proofs.MainLaws.{texts_without_return_stay}
use Rattle.op_model.proofs.laws.texts_without_return_stay.Goals as goal

pub returns : goal.returns
returns c = texts_without_return_stay
