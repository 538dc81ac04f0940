use Rattle.op_model.proofs.MainLaws.{hidden_texts_are_utf8}
use Rattle.op_model.proofs.laws.hidden_texts_are_utf8.Goals as goal

pub returns : goal.returns
returns c = hidden_texts_are_utf8
