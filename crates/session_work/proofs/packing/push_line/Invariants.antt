use Rattle.std.proofs.Common.{◌≡◌, ◌++◌, replicate}
use Rattle.session_work.proofs.packing.push_line.Given as goal

abbrev pub invariant-loop : goal.invariant-loop
invariant-loop l = record {
  pushed : l.lines.items ≡ l.fn.lines.items ++ replicate l.counter l.fn.line;
}
