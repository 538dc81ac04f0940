use Rattle.undo_map.proofs.Entries.{entries_within}
use Rattle.undo_map.proofs.laws.entries_are_held.Goals as goal

pub returns : goal.returns
returns c = entries_within
