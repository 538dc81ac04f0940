use Rattle.std.proofs.Common.{◌≡◌, take}
use Rattle.session_more.specs.Lines.{query_count}
use Rattle.session_more.proofs.line_list.MoreLines.query_count.Given as goal

abbrev pub invariant-loop-line : goal.invariant-loop-line
invariant-loop-line l = l.count ≡ query_count (take l.line-index l.lines)
