use Rattle.std.proofs.Common.{◌≡◌, take}
use Rattle.session_lines.specs.Session.{query_count}
use Rattle.session_lines.proofs.line_list.SessionLines.query_count.Given as goal

abbrev pub invariant-loop-line : goal.invariant-loop-line
invariant-loop-line l = l.count ≡ query_count (take l.line-index l.lines)
