use Rattle.std.proofs.Common.{drop}
use Rattle.std.specs.Prelude.{◌↔◌}
use Rattle.lamport_clock.specs.Versions.{IsVersion, IsVersionFrom}
use Rattle.lamport_clock.proofs.version.ascend.Given as goal

abbrev pub invariant-loop-replica : goal.invariant-loop-replica
invariant-loop-replica l = IsVersionFrom l.least (drop l.replica-index l.entries) ↔ IsVersion l.entries
