use Rattle.std.proofs.Common.{◌++◌, List, refl, sym, ap, ◌∙◌}
use Rattle.std.specs.Option.{option_to_list}
use Rattle.session_lines.specs.Report.{report_text}
use Rattle.session_lines.specs.declared.report.Report.{Report}
use Rattle.session_lines.proofs.Reports.{line_reported, nothing_written}
use Rattle.session_work.proofs.replay.Progress.work_since.Goals as goal

pub returns-in_default-clause-report : goal.returns-in_default-clause-report
returns-in_default-clause-report c =
    let out = c.args.self.now.report.items in
    nothing_written out ∙ ap (λ (rs : List Report). out ++ report_text rs) (ap option_to_list (sym c.in_default.is) ∙ c.in_ok-report.ensures)

pub returns-clause-report : goal.returns-clause-report
returns-clause-report c =
    let out = c.args.self.now.report.items in
    line_reported _ _ out _ refl c.in_ok-write_line.ensures.ok
    ∙ ap (λ (rs : List Report). out ++ report_text rs) (ap option_to_list (sym c.in-Some.is) ∙ c.in_ok-report.ensures)
