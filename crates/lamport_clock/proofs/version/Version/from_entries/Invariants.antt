use Rattle.std.proofs.Common.{◌≡◌, [], drop}
use Rattle.lamport_clock.specs.Versions.{join_versions}
use Rattle.lamport_clock.proofs.version.Version.from_entries.Given as goal

abbrev pub invariant-loop-replica : goal.invariant-loop-replica
invariant-loop-replica l = join_versions [] l.entries ≡ join_versions l.version (drop l.replica-index l.entries)
