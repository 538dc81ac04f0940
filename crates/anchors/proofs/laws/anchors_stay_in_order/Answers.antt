use Rattle.anchors.proofs.Orders.{anchors_stay_in_order}
use Rattle.anchors.proofs.laws.anchors_stay_in_order.Goals as goal

pub returns : goal.returns
returns c = anchors_stay_in_order
