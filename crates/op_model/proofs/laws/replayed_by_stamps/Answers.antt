use Rattle.op_model.proofs.MainLaws.{replayed_by_stamps}
use Rattle.op_model.proofs.laws.replayed_by_stamps.Goals as goal

pub returns : goal.returns
returns c = replayed_by_stamps
