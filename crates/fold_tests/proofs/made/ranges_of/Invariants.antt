use Rattle.std.specs.List.{All}
use Rattle.fold_spans.specs.Sweep.{IsWithin}
use Rattle.fold_tests.proofs.made.ranges_of.Given as goal

abbrev pub invariant-loop-start : goal.invariant-loop-start
invariant-loop-start l = All (IsWithin 0 l.len) l.folds.items
