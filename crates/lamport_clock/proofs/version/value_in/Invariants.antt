use Rattle.std.proofs.Common.{◌≡◌, drop}
use Rattle.lamport_clock.specs.Versions.{entry}
use Rattle.lamport_clock.proofs.version.value_in.Given as goal

abbrev pub invariant-loop-replica : goal.invariant-loop-replica
invariant-loop-replica l = entry (drop l.replica-index l.entries) l.r ≡ entry l.entries l.r
