use Rattle.op_model.proofs.MainLaws.{entered_texts_have_no_return}
use Rattle.op_model.proofs.laws.entered_texts_have_no_return.Goals as goal

pub returns : goal.returns
returns c = entered_texts_have_no_return
