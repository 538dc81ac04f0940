use Rattle.op_model.proofs.texts.WholeTexts.{boundary_is}
use Rattle.buffer_handles.proofs.reading.is_boundary.Goals as goal

pub returns-clause-test : goal.returns-clause-test
returns-clause-test c = boundary_is c.args.rope.now c.args.offset c.is_char_boundary.result c.is_char_boundary.ensures
