use Rattle.std.proofs.Common.{refl}
use Rattle.session_work.proofs.replica.report_refusal.Goals as goal
use Rattle.session_lines.proofs.Reports.{line_reported}

pub returns-clause-report : goal.returns-clause-report
returns-clause-report c = line_reported _ _ _ _ refl c.in_ok-write_line.ensures.ok
