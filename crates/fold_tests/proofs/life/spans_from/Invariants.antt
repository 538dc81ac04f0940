use Rattle.std.proofs.Common.{◌*◌, ◌≤◌}
use Rattle.fold_spans.specs.Spans.{text_sum, AreSpans}
use Rattle.fold_tests.proofs.life.spans_from.Given as goal

abbrev pub invariant-loop-i : goal.invariant-loop-i
invariant-loop-i l = record {
  spans : AreSpans l.spans.items;
  short : text_sum l.spans.items ≤ 9 * l._i;
}
