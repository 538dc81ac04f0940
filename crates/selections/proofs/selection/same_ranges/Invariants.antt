use Rattle.std.proofs.Common.{◌≡◌, length, drop}
use Rattle.op_model.specs.Answers.{same_list}
use Rattle.selections.specs.Same.{same_selection}
use Rattle.selections.proofs.selection.same_ranges.Given as goal

abbrev pub invariant-loop-i : goal.invariant-loop-i
invariant-loop-i l = record {
  long : length l.a ≡ length l.b;
  same : same_list same_selection l.a l.b ≡ same_list same_selection (drop l.i l.a) (drop l.i l.b);
}
