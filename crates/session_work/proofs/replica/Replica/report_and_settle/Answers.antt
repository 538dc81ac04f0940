use Rattle.std.proofs.Common.{◌++◌, ap, ◌∙◌}
use Rattle.session_lines.specs.Report.{line_text}
use Rattle.session_lines.specs.declared.report.Report.TheVariants as report
use Rattle.session_lines.proofs.Reports.{more_reported}
use Rattle.session_work.proofs.replica.Replica.report_and_settle.Goals as goal

pub returns-clause-report : goal.returns-clause-report
returns-clause-report c =
    more_reported _ _ _ _ _ (c.in_ok-write_line.ensures.ok ∙ ap (λ t. c.args.out.now.items ++ line_text (report.Made c.args.number t)) c.stamp-stamp.ensures)
    c.in_ok-settle.ensures.report
