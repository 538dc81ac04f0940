use Rattle.anchors.proofs.Orders.{order_is_total}
use Rattle.anchors.proofs.laws.order_is_total.Goals as goal

pub returns : goal.returns
returns c = order_is_total
