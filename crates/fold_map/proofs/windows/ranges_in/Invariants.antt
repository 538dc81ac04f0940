use Rattle.std.proofs.Common.{◌≡◌, ◌++◌, drop}
use Rattle.fold_map.specs.Windows.{named_ranges}
use Rattle.fold_map.proofs.windows.ranges_in.Given as goal

abbrev pub invariant-loop-number : goal.invariant-loop-number
invariant-loop-number l = l.ranges.items ++ named_ranges l.snapshot l.folds (drop l.number-index l.list) ≡ named_ranges l.snapshot l.folds l.list
