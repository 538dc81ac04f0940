use Rattle.std.proofs.Common.{◌≡◌, ◌++◌, take, drop}
use Rattle.lamport_clock.specs.Versions.{join_versions}
use Rattle.lamport_clock.proofs.version.raise_each.Given as goal

abbrev pub invariant-loop-i : goal.invariant-loop-i
invariant-loop-i l = record {
  rest : drop l.i l.ours ≡ drop l.i l.initial.ours;
  same : join_versions l.initial.ours l.theirs ≡ take l.i l.ours ++ join_versions (drop l.i l.ours) (drop l.i l.theirs);
}
