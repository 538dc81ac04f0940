use Rattle.op_model.proofs.texts.WholeTexts.{boundary_is}
use Rattle.selections.proofs.setting.is_boundary.Goals as goal

pub returns : goal.returns
returns c = boundary_is c.args.rope.now c.args.i c.is_char_boundary.result c.is_char_boundary.ensures
