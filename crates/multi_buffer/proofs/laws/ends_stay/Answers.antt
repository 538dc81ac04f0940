use Rattle.multi_buffer.proofs.Ends.{ends_stay}
use Rattle.multi_buffer.proofs.laws.ends_stay.Goals as goal

pub returns : goal.returns
returns c = ends_stay
