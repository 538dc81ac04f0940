use Rattle.op_model.proofs.MainLaws.{deleters_delete}
use Rattle.op_model.proofs.laws.deleters_delete.Goals as goal

pub returns : goal.returns
returns c = deleters_delete
