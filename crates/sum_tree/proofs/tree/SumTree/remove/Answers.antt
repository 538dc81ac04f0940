use Rattle.std.proofs.Common.{List, Some, sym, ap, subst, ◌∙◌, arith}
use Rattle.sum_tree.specs.Keyed.{Ascending}
use Rattle.sum_tree.proofs.Splices.{fits_cut, short_cut}
use Rattle.sum_tree.proofs.Keys.{put_removed, ascending_removed}
use Rattle.sum_tree.proofs.tree.SumTree.remove.Goals as goal

pub overflow_add-i : goal.overflow_add-i
overflow_add-i g c = omega (arith, c.in-Ok.ensures.0, c.known.ensures.short)

pub put-requires-clause-short : goal.put-requires-clause-short
put-requires-clause-short g c = omega (arith, short_cut c.in-Ok.i c.new.result.items c.args.self.now.items c.new.ensures.items c.in-Ok.ensures.0, c.known.ensures.short)

pub put-requires-clause-fits : goal.put-requires-clause-fits
put-requires-clause-fits g c = fits_cut g.met.T.Summary.Summary.laws g.T.Item.sum_of g.met.T.Item.admitted c.in-Ok.i c.new.result.items c.args.self.now.items c.new.ensures.items c.known.ensures.fits

pub returns-in_ok-put-in-Ok-clause-removed : goal.returns-in_ok-put-in-Ok-clause-removed
returns-in_ok-put-in-Ok-clause-removed g c =
    let x = c.at.result.now in
    ap Some (c.in_ok-old-in-Ok.ensures ∙ c.at.ensures x) ∙ sym (c.in-Ok.ensures.3 x)

pub returns-in_ok-put-in-Ok-clause-ascending : goal.returns-in_ok-put-in-Ok-clause-ascending
returns-in_ok-put-in-Ok-clause-ascending g c =
    let xs = c.args.self.now.items in
    subst (λ (zs : List _). Ascending g.T.Key.Ord.cmp g.T.KeyedItem.key_of zs) (sym (put_removed g.T.Key.Ord.cmp g.T.KeyedItem.key_of g.met.T.Key.Ord.total c.args.key.now xs c.put.new.self.items c.new.result.items c.in-Ok.i c.in-Ok.ensures c.new.ensures.items c.in_ok-put-in-Ok.ensures.ok)) (ascending_removed g.T.Key.Ord.cmp g.T.KeyedItem.key_of g.met.T.Key.Ord.total c.args.key.now xs c.requires.ascending)
