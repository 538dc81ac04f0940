use Rattle.sum_tree.proofs.Splices.{fits_new}
use Rattle.sum_tree.proofs.tree.SumTree.splice_counted.Goals as goal

pub entries_of-requires : goal.entries_of-requires
entries_of-requires g c = record { fits = fits_new g.met.T.Summary.Summary.laws g.T.Item.sum_of g.met.T.Item.admitted c.args.from c.args.to c.args.items.items c.args.self.now.items c.requires.fits }
