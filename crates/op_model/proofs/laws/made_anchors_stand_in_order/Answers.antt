use Rattle.op_model.proofs.MainLaws.{made_anchors_stand_in_order}
use Rattle.op_model.proofs.laws.made_anchors_stand_in_order.Goals as goal

pub returns : goal.returns
returns c = made_anchors_stand_in_order
