use Rattle.op_model.proofs.MainLaws.{places_are_boundaries}
use Rattle.op_model.proofs.laws.places_are_boundaries.Goals as goal

pub returns : goal.returns
returns c = places_are_boundaries
