use Rattle.op_model.proofs.MainLaws.{parts_are_filtered}
use Rattle.op_model.proofs.laws.parts_are_filtered.Goals as goal

pub returns : goal.returns
returns c = parts_are_filtered
