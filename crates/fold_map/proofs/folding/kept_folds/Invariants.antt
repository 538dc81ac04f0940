use Rattle.std.proofs.Common.{◌≡◌, drop}
use Rattle.fold_map.specs.Windows.{without_each}
use Rattle.fold_map.proofs.folding.kept_folds.Given as goal

abbrev pub invariant-loop-range : goal.invariant-loop-range
invariant-loop-range l = without_each l.s l.e (drop l.range-index l.ranges) l.kept ≡ without_each l.s l.e l.ranges l.folds
