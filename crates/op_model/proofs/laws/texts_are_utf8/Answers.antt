use Rattle.op_model.proofs.MainLaws.{texts_are_utf8}
use Rattle.op_model.proofs.laws.texts_are_utf8.Goals as goal

pub returns : goal.returns
returns c = texts_are_utf8
