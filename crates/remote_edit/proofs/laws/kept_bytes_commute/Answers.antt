use Rattle.remote_edit.proofs.Joining.{kept_commute}
use Rattle.remote_edit.proofs.laws.kept_bytes_commute.Goals as goal

pub returns : goal.returns
returns c = kept_commute
