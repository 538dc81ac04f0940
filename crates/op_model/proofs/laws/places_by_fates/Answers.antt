use Rattle.op_model.proofs.MainLaws.{places_by_fates}
use Rattle.op_model.proofs.laws.places_by_fates.Goals as goal

pub returns : goal.returns
returns c = places_by_fates
