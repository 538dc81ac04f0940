use Rattle.anchors.proofs.Orders.{left_before_right}
use Rattle.anchors.proofs.laws.left_before_right.Goals as goal

pub returns : goal.returns
returns c = left_before_right
