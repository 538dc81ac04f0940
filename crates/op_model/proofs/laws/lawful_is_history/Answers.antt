use Rattle.op_model.proofs.MainLaws.{lawful_is_history}
use Rattle.op_model.proofs.laws.lawful_is_history.Goals as goal

pub returns : goal.returns
returns c = lawful_is_history
