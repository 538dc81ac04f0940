use Rattle.std.proofs.Common.{List, sym, subst}
use Rattle.snapshot_pub.specs.declared.kept.Kept.{Kept}
use Rattle.snapshot_pub.specs.Rule.{AreOf, kept_pair}
use Rattle.snapshot_pub.proofs.Following.{own_one}
use Rattle.snapshot_pub.proofs.open.open_pair.Goals as goal

pub invariant_of-result : goal.invariant_of-result
invariant_of-result g c = subst (λ (v : List Kept). AreOf (kept_pair c.in_ok-growth.longest) v) (sym c.in_ok-end.ensures.learned) (own_one c.in_ok-growth.longest)
