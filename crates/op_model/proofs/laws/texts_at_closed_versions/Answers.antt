use Rattle.op_model.proofs.MainLaws.{texts_at_closed_versions}
use Rattle.op_model.proofs.laws.texts_at_closed_versions.Goals as goal

pub returns : goal.returns
returns c = texts_at_closed_versions
