use Rattle.std.proofs.Common.{◌≡◌, ◌≤◌, take, drop, ◌+◌}
use Rattle.std.specs.List.{AllByRecursion}
use Rattle.op_model.specs.Operations.{text_total}
use Rattle.op_wire.specs.Spelling.{limit, long_sum, IsPiece}
use Rattle.op_wire.proofs.encoding.texts_len.Given as goal

abbrev pub invariant-loop-p : goal.invariant-loop-p
invariant-loop-p l = record {
  within : l.so_far ≤ limit;
  long : long_sum l.so_far (drop l.p-index l.ps) ≡ long_sum 0 l.ps;
  total : l.so_far + text_total (drop l.p-index l.ps) ≡ text_total l.ps;
  each : AllByRecursion IsPiece (take l.p-index l.ps);
}
