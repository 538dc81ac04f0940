use Rattle.op_model.proofs.MainLaws.{anchors_keep_their_order}
use Rattle.op_model.proofs.laws.anchors_keep_their_order.Goals as goal

pub returns : goal.returns
returns c = anchors_keep_their_order
