use Rattle.op_model.proofs.MainLaws.{anchors_stand_in_order}
use Rattle.op_model.proofs.laws.anchors_stand_in_order.Goals as goal

pub returns : goal.returns
returns c = anchors_stand_in_order
