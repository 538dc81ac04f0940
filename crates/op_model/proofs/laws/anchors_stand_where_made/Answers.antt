use Rattle.op_model.proofs.MainLaws.{anchors_stand_where_made}
use Rattle.op_model.proofs.laws.anchors_stand_where_made.Goals as goal

pub returns : goal.returns
returns c = anchors_stand_where_made
