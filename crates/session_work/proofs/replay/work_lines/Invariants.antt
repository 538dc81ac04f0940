use Rattle.std.proofs.Common.{◌≡◌, ◌+◌, ◌++◌, length}
use Rattle.session_more.specs.Reports.{more_report_text}
use Rattle.session_work.specs.MoreWork.{after_all_more, all_more_events}
use Rattle.session_work.specs.Room.{HasRoom}
use Rattle.session_work.specs.Working.{more_state_of}
use Rattle.session_work.proofs.QueryLines.{answers_of}
use Rattle.session_work.proofs.replay.work_lines.Given as goal

abbrev pub invariant-loop-line : goal.invariant-loop-line
invariant-loop-line l = record {
  report : l.progress.plain.report.items ++ more_report_text (all_more_events l.lines (more_state_of l.progress)) ≡ l.fn.progress.plain.report.items ++ more_report_text (all_more_events l.fn.lines (more_state_of l.fn.progress));
  answers : l.answers.items ++ answers_of (length l.answers.items + 1) l.lines (more_state_of l.progress) ≡ l.fn.answers.items ++ answers_of (length l.fn.answers.items + 1) l.fn.lines (more_state_of l.fn.progress);
  room : HasRoom (length l.lines) (more_state_of l.progress);
  state : after_all_more l.lines (more_state_of l.progress) ≡ after_all_more l.fn.lines (more_state_of l.fn.progress);
}

abbrev pub decreases-loop-line : goal.decreases-loop-line
decreases-loop-line l = length l.lines
