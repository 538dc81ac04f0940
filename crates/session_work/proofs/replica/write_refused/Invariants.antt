use Rattle.std.proofs.Common.{◌≡◌, ◌++◌, drop}
use Rattle.session_lines.specs.Report.{report_text}
use Rattle.session_work.proofs.Reports.{refusals}
use Rattle.session_work.proofs.replica.write_refused.Given as goal

abbrev pub invariant-loop-entry : goal.invariant-loop-entry
invariant-loop-entry l = l.out.items ++ report_text (refusals l.replica (drop l.entry-index l.refused)) ≡ l.fn.out.items ++ report_text (refusals l.replica l.refused)
