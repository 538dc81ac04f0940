use Rattle.std.proofs.Common.{◌≡◌}
use Rattle.std.specs.Prelude.{slice_range}
use Rattle.fold_spans.specs.Spans.{folds_of}
use Rattle.fold_spans.proofs.spans.Spans.folds.Given as goal

abbrev pub invariant-loop-index : goal.invariant-loop-index
invariant-loop-index l = record {
  items : l.cursor.items ≡ l.self;
  at : l.cursor.index ≡ l._index;
  so_far : l.numbers.items ≡ folds_of (slice_range l.self l.from l._index);
}
