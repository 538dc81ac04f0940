use Rattle.op_model.proofs.MainLaws.{shown_anchors_are_made_again}
use Rattle.op_model.proofs.laws.shown_anchors_are_made_again.Goals as goal

pub returns : goal.returns
returns c = shown_anchors_are_made_again
