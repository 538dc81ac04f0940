use Rattle.undo_map.proofs.Entries.{of_history}
use Rattle.undo_map.proofs.laws.counts_are_of_history.Goals as goal

pub returns : goal.returns
returns c = of_history
