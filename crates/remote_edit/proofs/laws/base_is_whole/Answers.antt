use Rattle.remote_edit.proofs.WholeFragments.{base_whole}
use Rattle.remote_edit.proofs.laws.base_is_whole.Goals as goal

pub returns : goal.returns
returns c = base_whole
