use Rattle.std.proofs.Common.{subst, [], ◌∷◌}
use Rattle.sum_tree.proofs.Folds.{fold_single}
use Rattle.sum_tree.proofs.Splices.{fits_new}
use Rattle.sum_tree.proofs.tree.SumTree.put_item.Goals as goal

pub new-requires : goal.new-requires
new-requires g c =
    subst g.T.Summary.Summary.fits (fold_single g.met.T.Summary.Summary.laws g.T.Item.sum_of g.met.T.Item.admitted c.args.item) (fits_new g.met.T.Summary.Summary.laws g.T.Item.sum_of g.met.T.Item.admitted c.args.from c.args.to (c.args.item ∷ []) c.args.self.now.items c.requires.fits)
