use Rattle.fold_map.proofs.Numbers.{none_numbered}
use Rattle.fold_map.proofs.folds.Folds.new.Goals as goal

pub invariant_of-result : goal.invariant_of-result
invariant_of-result c = none_numbered 0 c.in_ok-tree.tree.items c.in_ok-tree.ensures.items
