use Rattle.std.proofs.Common.{◌≡◌, length, drop}
use Rattle.op_model.specs.Answers.{same_list, same_piece}
use Rattle.op_model.proofs.same.same_pieces.Given as goal

abbrev pub invariant-loop-i : goal.invariant-loop-i
invariant-loop-i l = record {
  long : length l.a ≡ length l.b;
  same : same_list same_piece l.a l.b ≡ same_list same_piece (drop l.i l.a) (drop l.i l.b);
}
