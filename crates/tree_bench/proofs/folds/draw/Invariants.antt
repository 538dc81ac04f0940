use Rattle.std.specs.List.{All}
use Rattle.fold_spans.specs.Sweep.{IsWithin}
use Rattle.tree_bench.proofs.folds.draw.Given as goal

abbrev pub invariant-loop-i : goal.invariant-loop-i
invariant-loop-i l = All (IsWithin l.run.start l.run.end) l.ranges.items
