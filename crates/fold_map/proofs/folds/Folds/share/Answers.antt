use Rattle.std.proofs.Common.{subst, sym}
use Rattle.sum_tree.specs.Seen.{Seen}
use Rattle.fold_map.specs.Numbered.{AreNumbered}
use Rattle.fold_map.specs.declared.fold.NumberedFold.{NumberedFold}
use Rattle.fold_map.proofs.folds.Folds.share.Goals as goal

pub invariant_of-result : goal.invariant_of-result
invariant_of-result c = subst (λ (t : Seen NumberedFold). AreNumbered c.self.inside.next t.items) (sym c.in_ok-tree.ensures) c.self.invariant
