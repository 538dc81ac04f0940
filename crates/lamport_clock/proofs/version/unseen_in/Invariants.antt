use Rattle.std.proofs.Common.{◌≡◌, drop}
use Rattle.lamport_clock.specs.Versions.{first_unseen, IsVersion}
use Rattle.lamport_clock.proofs.version.unseen_in.Given as goal

abbrev pub invariant-loop-replica : goal.invariant-loop-replica
invariant-loop-replica l = record {
  version : IsVersion l.rest;
  same : first_unseen l.ours l.theirs ≡ first_unseen l.rest (drop l.replica-index l.theirs);
}
