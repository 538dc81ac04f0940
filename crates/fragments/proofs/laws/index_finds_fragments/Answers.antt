use Rattle.fragments.proofs.Founds.{index_finds_fragments}
use Rattle.fragments.proofs.laws.index_finds_fragments.Goals as goal

pub returns : goal.returns
returns c = index_finds_fragments
