use Rattle.op_model.proofs.MainLaws.{facts_change_at_boundaries}
use Rattle.op_model.proofs.laws.facts_change_at_boundaries.Goals as goal

pub returns : goal.returns
returns c = facts_change_at_boundaries
