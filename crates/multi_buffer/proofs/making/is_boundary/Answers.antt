use Rattle.op_model.proofs.texts.WholeTexts.{boundary_is}
use Rattle.multi_buffer.proofs.making.is_boundary.Goals as goal

pub returns : goal.returns
returns c = boundary_is c.args.text.now c.args.offset c.is_char_boundary.result c.is_char_boundary.ensures
