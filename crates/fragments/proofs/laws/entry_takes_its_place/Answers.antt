use Rattle.fragments.proofs.Entries.{entry_takes_its_place}
use Rattle.fragments.proofs.laws.entry_takes_its_place.Goals as goal

pub returns : goal.returns
returns c = entry_takes_its_place
