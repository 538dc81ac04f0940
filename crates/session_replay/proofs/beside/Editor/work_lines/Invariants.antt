use Rattle.std.proofs.Common.{◌≡◌, ◌≤◌, ◌++◌, List, length}
use Rattle.queries.specs.Asks.{Ask}
use Rattle.session_more.specs.Reports.{more_report_text}
use Rattle.session_work.specs.MoreWork.{after_all_more, all_more_events}
use Rattle.session_work.specs.Room.{HasRoom}
use Rattle.session_work.specs.Working.{more_state_of}
use Rattle.session_replay.specs.Beside.{IsAsking, KeepsEnds}
use Rattle.session_work.specs.declared.queries.Question.{Question}
use Rattle.session_work.specs.Later.{AllGrow}
use Rattle.session_replay.proofs.Asking.{Leads}
use Rattle.session_replay.proofs.beside.Editor.work_lines.Given as goal

abbrev pub invariant-loop-line : goal.invariant-loop-line
invariant-loop-line g l = record {
  count : length l.lines ≤ l.count;
  workers : l.self.workers ≡ l.fn.self.workers;
  report : l.self.progress.plain.report.items ++ more_report_text (all_more_events l.lines (more_state_of l.self.progress)) ≡ l.fn.self.progress.plain.report.items ++ more_report_text (all_more_events l.fn.lines (more_state_of l.fn.self.progress));
  few : HasRoom (length l.lines) (more_state_of l.self.progress);
  state : after_all_more l.lines (more_state_of l.self.progress) ≡ after_all_more l.fn.lines (more_state_of l.fn.self.progress);
  grows : AllGrow l.fn.self.progress.plain.exchange.buffers l.self.progress.plain.exchange.buffers;
  ends : KeepsEnds l.fn.self.dispatcher l.fn.publishers l.self.dispatcher l.publishers;
  asking : (asks : List (Ask Question)) → IsAsking l.fn.self.progress.plain.exchange.buffers asks l.fn.self.dispatcher l.fn.publishers
      → Leads l.fn.lines (more_state_of l.fn.self.progress) asks l.lines (more_state_of l.self.progress) l.self.dispatcher l.publishers;
}

abbrev pub decreases-loop-line : goal.decreases-loop-line
decreases-loop-line g l = length l.lines
