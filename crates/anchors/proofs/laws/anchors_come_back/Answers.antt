use Rattle.anchors.proofs.Orders.{anchors_come_back}
use Rattle.anchors.proofs.laws.anchors_come_back.Goals as goal

pub returns : goal.returns
returns c = anchors_come_back
