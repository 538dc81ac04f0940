use Rattle.selections.proofs.Equal.{equal_selections_are_same}
use Rattle.selections.proofs.laws.equal_selections_are_same.Goals as goal

pub returns : goal.returns
returns c = equal_selections_are_same
