use Rattle.op_model.proofs.MainLaws.{edits_since_tell_the_change}
use Rattle.op_model.proofs.laws.edits_since_tell_the_change.Goals as goal

pub returns : goal.returns
returns c = edits_since_tell_the_change
