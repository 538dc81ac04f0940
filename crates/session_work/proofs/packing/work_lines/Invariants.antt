use Rattle.std.proofs.Common.{◌≡◌, ◌+◌, ◌-◌, ◌≤◌, ◌++◌, length}
use Rattle.session_work.specs.MoreWork.{after_all_more}
use Rattle.session_work.specs.Packing.{lines_from}
use Rattle.session_work.specs.Room.{HasRoom}
use Rattle.session_work.specs.Working.{more_state_of}
use Rattle.session_work.proofs.packing.work_lines.Given as goal

abbrev pub invariant-loop-line : goal.invariant-loop-line
invariant-loop-line l = record {
  within : length l.lines + 2 ≤ l.end;
  numbered : l.numbered.items ++ lines_from l.fn.replicas (l.end - length l.lines) l.lines ≡ l.fn.numbered.items ++ lines_from l.fn.replicas 2 l.fn.lines;
  room : HasRoom (length l.lines) (more_state_of l.progress);
  state : after_all_more l.lines (more_state_of l.progress) ≡ after_all_more l.fn.lines (more_state_of l.fn.progress);
}

abbrev pub decreases-loop-line : goal.decreases-loop-line
decreases-loop-line l = length l.lines
