use Rattle.op_model.proofs.MainLaws.{two_passes_are_enough}
use Rattle.op_model.proofs.laws.two_passes_are_enough.Goals as goal

pub returns : goal.returns
returns c = two_passes_are_enough
