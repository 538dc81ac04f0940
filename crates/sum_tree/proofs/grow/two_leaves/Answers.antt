use Rattle.std.proofs.Common.{◌/◌, length, ap, arith}
use Rattle.std.proofs.lemmas.List.{length-take-le, length-drop}
use Rattle.sum_tree.proofs.Folds.{fits_take, fits_drop}
use Rattle.sum_tree.proofs.Widths.{two_leaves}
use Rattle.sum_tree.proofs.grow.two_leaves.Goals as goal

pub leaf-requires-clause-narrow : goal.leaf-requires-clause-narrow
leaf-requires-clause-narrow g c =
    omega (arith, ap length c.in_ok-rest.ensures.items, length-take-le (c.len-half.result / 2) c.args.entries.items (omega (arith, c.len-half.ensures, c.args.entries.ok)), c.len-half.ensures, c.requires.most, c.args.entries.ok)

pub leaf-requires-clause-fits : goal.leaf-requires-clause-fits
leaf-requires-clause-fits g c =
    rw c.in_ok-rest.ensures.items (fits_take g.met.T.Summary.Summary.laws g.T.Item.sum_of g.met.T.Item.admitted c.args.entries.items _ c.requires.fits)

pub leaf-requires-2-clause-narrow : goal.leaf-requires-2-clause-narrow
leaf-requires-2-clause-narrow g c =
    omega (arith, ap length c.in_ok-rest.ensures.tail, length-drop (c.len-half.result / 2) c.args.entries.items, c.len-half.ensures, c.requires.most, c.args.entries.ok)

pub leaf-requires-2-clause-fits : goal.leaf-requires-2-clause-fits
leaf-requires-2-clause-fits g c =
    rw c.in_ok-rest.ensures.tail (fits_drop g.met.T.Summary.Summary.laws g.T.Item.sum_of g.met.T.Item.admitted c.args.entries.items _ c.requires.fits)

pub returns-clause-split : goal.returns-clause-split
returns-clause-split g c =
    let xs = c.args.entries.items in
    let p = c.in_ok-front.ensures in
    let q = c.in_ok-back.ensures in
    two_leaves 0 xs c.split_off.new.self.items c.in_ok-rest.rest.items (c.len-half.result / 2) c.in_ok-front.front c.in_ok-back.back c.in_ok-rest.ensures.items c.in_ok-rest.ensures.tail (p.items, p.height, p.width) (q.items, q.height, q.width) (omega (arith, c.requires.many, c.len-half.ensures, c.args.entries.ok)) (omega (arith, c.requires.most, c.len-half.ensures, c.args.entries.ok)) (omega (arith, c.requires.many, c.len-half.ensures, c.args.entries.ok)) (omega (arith, c.requires.most, c.len-half.ensures, c.args.entries.ok))
