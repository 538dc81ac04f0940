use Rattle.selections.proofs.Newest.{same_operations_same_kept}
use Rattle.selections.proofs.laws.same_operations_same_kept.Goals as goal

pub returns : goal.returns
returns c = same_operations_same_kept
