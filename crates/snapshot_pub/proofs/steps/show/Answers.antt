use Rattle.std.proofs.Common.{sym, subst}
use Rattle.snapshot_pub.specs.Rule.{Follows}
use Rattle.snapshot_pub.proofs.Following.{shows}
use Rattle.snapshot_pub.proofs.steps.show.Goals as goal

pub show_as-requires : goal.show_as-requires
show_as-requires g c = shows _ _ c.open-open.result.0.shown.value c.args.kept (subst (λ s. Follows c.args.kept s.value) (sym c.open-open.ensures.values.0) c.requires)

pub invariant_of-end : goal.invariant_of-end
invariant_of-end g c = record { in_step = c.args.end.in_step }
