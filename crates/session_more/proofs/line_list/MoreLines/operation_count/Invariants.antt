use Rattle.std.proofs.Common.{◌≡◌, ◌+◌, ◌≤◌, min, sum, map, drop}
use Rattle.session_lines.specs.Before.{last_number}
use Rattle.session_more.specs.Lines.{number_count, operation_count}
use Rattle.session_more.proofs.line_list.MoreLines.operation_count.Given as goal

abbrev pub invariant-loop-line : goal.invariant-loop-line
invariant-loop-line l = record {
  count : min (l.count + sum (map (number_count l.replicas) (drop l.line-index l.lines))) last_number ≡ operation_count l.replicas l.lines;
  most : l.count ≤ last_number;
}
