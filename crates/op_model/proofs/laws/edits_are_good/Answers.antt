use Rattle.op_model.proofs.MainLaws.{edits_are_good}
use Rattle.op_model.proofs.laws.edits_are_good.Goals as goal

pub returns : goal.returns
returns c = edits_are_good
