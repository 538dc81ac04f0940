use Rattle.undo_map.proofs.Entries.{entries_counted}
use Rattle.undo_map.proofs.laws.entries_are_counts.Goals as goal

pub returns : goal.returns
returns c = entries_counted
