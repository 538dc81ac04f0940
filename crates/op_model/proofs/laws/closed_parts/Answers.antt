use Rattle.op_model.proofs.MainLaws.{closed_parts}
use Rattle.op_model.proofs.laws.closed_parts.Goals as goal

pub returns : goal.returns
returns c = closed_parts
