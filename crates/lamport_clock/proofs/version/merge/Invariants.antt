use Rattle.std.proofs.Common.{◌≡◌, ◌++◌, drop}
use Rattle.lamport_clock.specs.Versions.{join_versions, IsVersion}
use Rattle.lamport_clock.proofs.version.merge.Given as goal

abbrev pub invariant-loop-replica : goal.invariant-loop-replica
invariant-loop-replica l = record {
  version : IsVersion l.rest;
  same : join_versions l.ours l.theirs ≡ l.all.items ++ join_versions l.rest (drop l.replica-index l.theirs);
}
