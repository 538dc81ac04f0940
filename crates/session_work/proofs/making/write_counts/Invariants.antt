use Rattle.std.proofs.Common.{◌≡◌, ◌++◌, drop}
use Rattle.session_work.specs.Making.{count_lines}
use Rattle.session_work.proofs.making.write_counts.Given as goal

abbrev pub invariant-loop-replica : goal.invariant-loop-replica
invariant-loop-replica l = l.out.items ++ count_lines (drop l.replica-index l.replicas) ≡ l.fn.out.items ++ count_lines l.replicas
