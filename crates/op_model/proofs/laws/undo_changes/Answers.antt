use Rattle.op_model.proofs.MainLaws.{undo_changes}
use Rattle.op_model.proofs.laws.undo_changes.Goals as goal

pub returns : goal.returns
returns c = undo_changes
