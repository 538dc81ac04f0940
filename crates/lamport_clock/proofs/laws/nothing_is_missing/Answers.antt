use Rattle.lamport_clock.proofs.Joined.{none_unseen}
use Rattle.lamport_clock.proofs.laws.nothing_is_missing.Goals as goal

pub returns : goal.returns
returns c = none_unseen
