use Rattle.selections.proofs.Newest.{one_author_changes}
use Rattle.selections.proofs.laws.one_author_changes.Goals as goal

pub returns : goal.returns
returns c = one_author_changes
