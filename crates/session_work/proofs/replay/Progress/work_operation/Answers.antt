use Rattle.std.proofs.Common.{◌∙◌, ap}
use Rattle.session_lines.specs.declared.report.Report.TheVariants as report
use Rattle.session_lines.proofs.Reports.{line_reported}
use Rattle.session_work.specs.Work.{next_number}
use Rattle.session_work.specs.Working.{state_of}
use Rattle.session_work.proofs.Steps.{same_state}
use Rattle.session_work.proofs.replay.Progress.work_operation.Goals as goal

pub returns-clause-report : goal.returns-clause-report
returns-clause-report c =
    line_reported _ _ _ _ (ap (λ n. report.Made n c.stamp-stamp.result) c.next_number-number.ensures ∙ ap (report.Made (next_number (state_of c.args.self.now))) c.stamp-stamp.ensures) c.in_ok-write_line.ensures.ok

pub returns-clause-state : goal.returns-clause-state
returns-clause-state c = same_state _ _ _ _ c.in_ok-keep.ensures.buffers c.in_ok-keep.ensures.operations
