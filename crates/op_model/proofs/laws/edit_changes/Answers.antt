use Rattle.op_model.proofs.MainLaws.{edit_changes}
use Rattle.op_model.proofs.laws.edit_changes.Goals as goal

pub returns : goal.returns
returns c = edit_changes
