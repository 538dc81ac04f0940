use Rattle.std.proofs.Common.{◌≡◌, [], drop}
use Rattle.lamport_clock.specs.Versions.{join_versions}
use Rattle.session_lines.proofs.parts.join_of_few.Given as goal

abbrev pub invariant-loop-replica : goal.invariant-loop-replica
invariant-loop-replica l = join_versions l.version (drop l.replica-index l.entries) ≡ join_versions [] l.entries
