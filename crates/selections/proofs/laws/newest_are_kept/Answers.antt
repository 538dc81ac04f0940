use Rattle.selections.proofs.Newest.{newest_are_kept}
use Rattle.selections.proofs.laws.newest_are_kept.Goals as goal

pub returns : goal.returns
returns c = newest_are_kept
