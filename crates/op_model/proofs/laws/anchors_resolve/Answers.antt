use Rattle.op_model.proofs.MainLaws.{anchors_resolve}
use Rattle.op_model.proofs.laws.anchors_resolve.Goals as goal

pub returns : goal.returns
returns c = anchors_resolve
