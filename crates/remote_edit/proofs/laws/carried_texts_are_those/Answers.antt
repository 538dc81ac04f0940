use Rattle.remote_edit.proofs.Texts.{carried_texts}
use Rattle.remote_edit.proofs.laws.carried_texts_are_those.Goals as goal

pub returns : goal.returns
returns c = carried_texts
