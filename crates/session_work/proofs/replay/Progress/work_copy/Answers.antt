use Rattle.std.proofs.Common.{List, ℕ, ◌++◌, sym, ap, ◌∙◌}
use Rattle.session_lines.specs.Report.{report_text}
use Rattle.session_lines.specs.declared.session.SessionLine.{SessionLine}
use Rattle.session_lines.specs.declared.session.SessionLine.TheVariants as line
use Rattle.session_work.specs.Work.{events}
use Rattle.session_work.specs.Working.{state_of}
use Rattle.session_work.proofs.replay.Progress.work_copy.Goals as goal

pub returns-in_ok-work_since-in-Since-clause-report : goal.returns-in_ok-work_since-in-Since-clause-report
returns-in_ok-work_since-in-Since-clause-report c =
    let out = c.args.self.now.report.items in
    let s = state_of c.args.self.now in
    c.in_ok-work_since-in-Since.ensures.report ∙ ap (λ (n : List ℕ). out ++ report_text (events (line.Since c.in-Since.replica n) s)) c.in_ok-copy-in-Since.ensures
    ∙ ap (λ (l : SessionLine). out ++ report_text (events l s)) (sym c.in-Since.is)
