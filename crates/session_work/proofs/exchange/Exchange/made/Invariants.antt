use Rattle.std.proofs.Common.{◌≡◌, ◌++◌, drop, map}
use Rattle.session_work.specs.Packing.{with_lines}
use Rattle.session_work.proofs.exchange.Exchange.made.Given as goal

abbrev pub invariant-loop-line : goal.invariant-loop-line
invariant-loop-line l = record {
  number : l.number ≡ l.line-index;
  made : map (λ p. (p.0, p.1.now)) l.made.items ++ with_lines l.number (drop l.line-index l.lines) l.self.operations ≡ with_lines 0 l.lines l.self.operations;
}
