use Rattle.op_model.proofs.MainLaws.{undo_is_told}
use Rattle.op_model.proofs.laws.undo_is_told.Goals as goal

pub returns : goal.returns
returns c = undo_is_told
