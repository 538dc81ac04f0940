use Rattle.remote_edit.proofs.Joining.{compose}
use Rattle.remote_edit.proofs.laws.moves_compose.Goals as goal

pub returns : goal.returns
returns c = compose
