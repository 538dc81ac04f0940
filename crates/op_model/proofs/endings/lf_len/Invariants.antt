use Rattle.std.proofs.Common.{◌≡◌, ◌+◌, ◌≤◌, length, drop}
use Rattle.op_model.specs.Rules.{lf, lf_after}
use Rattle.op_model.proofs.endings.lf_len.Given as goal

abbrev pub invariant-loop-b : goal.invariant-loop-b
invariant-loop-b l = record {
  sum : l.len + length (lf_after l.after_return (drop l.b-index l.text)) ≡ length (lf l.text);
  small : l.len ≤ l.b-index;
}
