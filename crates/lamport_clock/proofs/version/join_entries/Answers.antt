use Rattle.std.proofs.Common.{◌∙◌, ap, arith, length}
use Rattle.lamport_clock.specs.Versions.{Entries, join_versions}
use Rattle.lamport_clock.proofs.Entries.{refilled}
use Rattle.lamport_clock.proofs.version.join_entries.Goals as goal

pub returns-then-same_replicas-clause-ok : goal.returns-then-same_replicas-clause-ok
returns-then-same_replicas-clause-ok c =
    refilled c.args.entries.now.items c.raise_each.new.ours (omega (arith, c.raise_each.auto.ours, ap length c.as_mut_slice.ensures.value))
    ∙ c.raise_each.ensures
    ∙ ap (λ (z : Entries). join_versions z c.args.theirs.now) c.as_mut_slice.ensures.value
