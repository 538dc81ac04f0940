use Rattle.op_model.proofs.MainLaws.{parts_begin_histories}
use Rattle.op_model.proofs.laws.parts_begin_histories.Goals as goal

pub returns : goal.returns
returns c = parts_begin_histories
