use Rattle.lamport_clock.specs.Stamps.{same_stamp}
use Rattle.lamport_clock.proofs.stamp.is_same.Goals as goal

pub returns : goal.returns
unfolding same_stamp
returns c = c.eq.ensures
