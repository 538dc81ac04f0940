use Rattle.fragments.proofs.Founds.{base_stands}
use Rattle.fragments.proofs.laws.base_stands.Goals as goal

pub returns : goal.returns
returns c = base_stands
