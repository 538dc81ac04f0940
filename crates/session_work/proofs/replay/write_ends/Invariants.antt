use Rattle.std.proofs.Common.{◌≡◌, ◌++◌, drop}
use Rattle.std.specs.List.{flat_map}
use Rattle.session_lines.specs.Report.{report_text}
use Rattle.session_work.specs.Work.{at_end}
use Rattle.session_work.proofs.replay.write_ends.Given as goal

abbrev pub invariant-loop-replica : goal.invariant-loop-replica
invariant-loop-replica l = l.out.items ++ report_text (flat_map at_end (drop l.replica-index l.replicas)) ≡ l.fn.out.items ++ report_text (flat_map at_end l.replicas)
