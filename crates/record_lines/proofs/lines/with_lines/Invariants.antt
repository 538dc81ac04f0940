use Rattle.std.proofs.Common.{◌≡◌, ◌++◌, take}
use Rattle.record_lines.specs.Lines.{operation_lines}
use Rattle.record_lines.proofs.lines.with_lines.Given as goal

abbrev pub invariant-loop-operation : goal.invariant-loop-operation
invariant-loop-operation l = record {
  text : l.lines.items ≡ l.fn.text.items ++ operation_lines (take l.operation-index l.operations);
}
