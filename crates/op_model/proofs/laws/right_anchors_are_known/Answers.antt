use Rattle.op_model.proofs.MainLaws.{right_anchors_are_known}
use Rattle.op_model.proofs.laws.right_anchors_are_known.Goals as goal

pub returns : goal.returns
returns c = right_anchors_are_known
