use Rattle.fragments.proofs.Counts.{places_count_cells}
use Rattle.fragments.proofs.laws.places_count_cells.Goals as goal

pub returns : goal.returns
returns c = places_count_cells
