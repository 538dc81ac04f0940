use Rattle.std.proofs.Common.{subst}
use Rattle.std.proofs.lemmas.List.Elements.{All-map}
use Rattle.fold_map.specs.Folds.{IsFold}
use Rattle.fold_map.specs.State.{IsFoldState}
use Rattle.fold_map.specs.Numbered.{fold_of}
use Rattle.fold_map.proofs.map.FoldMap.known.Goals as goal

pub returns : goal.returns
returns c = subst IsFoldState c.self.view_is (record { history = c.known.ensures; folds = All-map (IsFold c.self.inside.snapshot) fold_of c.self.inside.folds c.self.invariant.folds })
