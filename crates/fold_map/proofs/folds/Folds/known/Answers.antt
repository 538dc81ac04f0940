use Rattle.std.proofs.Common.{subst}
use Rattle.fold_map.specs.Numbered.{AreNumbered}
use Rattle.fold_map.proofs.folds.Folds.known.Goals as goal

pub returns : goal.returns
returns c = (c.self.inside.next, subst (AreNumbered c.self.inside.next) c.self.view_is c.self.invariant)
