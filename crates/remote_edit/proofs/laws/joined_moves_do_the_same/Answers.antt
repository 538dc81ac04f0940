use Rattle.remote_edit.proofs.Joining.{joined_same}
use Rattle.remote_edit.proofs.laws.joined_moves_do_the_same.Goals as goal

pub returns : goal.returns
returns c = joined_same
