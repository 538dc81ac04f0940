use Rattle.lamport_clock.proofs.Joined.{within_join, joined_within}
use Rattle.lamport_clock.proofs.laws.join_is_least.Goals as goal

pub returns : goal.returns
returns c = λ u v w a b. let k = within_join u v a b in (k.0, k.1, joined_within u v w)
