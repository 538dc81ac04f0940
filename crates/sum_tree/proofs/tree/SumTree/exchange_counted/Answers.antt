use Rattle.std.proofs.Common.{List, sym, subst, ◌∙◌}
use Rattle.sum_tree.specs.Laws.{fold}
use Rattle.sum_tree.proofs.Splices.{fits_new}
use Rattle.sum_tree.proofs.tree.SumTree.exchange_counted.Goals as goal

pub entries_of-requires : goal.entries_of-requires
entries_of-requires g c = record { fits = fits_new g.met.T.Summary.Summary.laws g.T.Item.sum_of g.met.T.Item.admitted c.args.from c.args.to c.args.items.items c.args.self.now.items c.requires.fits }

pub sums_of-requires-clause-fits : goal.sums_of-requires-clause-fits
sums_of-requires-clause-fits g c =
    subst (λ (zs : List _). g.T.Summary.Summary.fits (fold g.T.Summary.Summary.empty g.T.Summary.Summary.op g.T.Item.sum_of zs)) (sym (c.deref.ensures.value ∙ c.in_ok-entries.ensures)) (fits_new g.met.T.Summary.Summary.laws g.T.Item.sum_of g.met.T.Item.admitted c.args.from c.args.to c.args.items.items c.args.self.now.items c.requires.fits)
