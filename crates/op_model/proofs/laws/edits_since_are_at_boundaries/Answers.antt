use Rattle.op_model.proofs.MainLaws.{edits_since_are_at_boundaries}
use Rattle.op_model.proofs.laws.edits_since_are_at_boundaries.Goals as goal

pub returns : goal.returns
returns c = edits_since_are_at_boundaries
