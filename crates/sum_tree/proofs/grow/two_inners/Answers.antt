use Rattle.std.proofs.Common.{◌≡◌, ◌/◌, ◌-◌, ◌∙◌, length, ap, arith}
use Rattle.std.proofs.lemmas.List.{length-take-le, length-drop}
use Rattle.sum_tree.proofs.Children.{joined-take_le, joined-drop_le, joined-split, fits_joined_take, fits_joined_drop}
use Rattle.sum_tree.proofs.Made.{made_child}
use Rattle.sum_tree.proofs.grow.two_inners.Goals as goal

pub inner-requires-clause-short : goal.inner-requires-clause-short
inner-requires-clause-short g c = rw c.in_ok-rest.ensures.items (omega (arith, joined-take_le c.args.children.items (c.len-half.result / 2), c.requires.short))

pub inner-requires-clause-fits : goal.inner-requires-clause-fits
inner-requires-clause-fits g c =
    rw c.in_ok-rest.ensures.items (fits_joined_take g.met.T.Summary.Summary.laws g.T.Item.sum_of g.met.T.Item.admitted c.args.children.items _ c.requires.fits)

pub inner-requires-2-clause-short : goal.inner-requires-2-clause-short
inner-requires-2-clause-short g c = rw c.in_ok-rest.ensures.tail (omega (arith, joined-drop_le c.args.children.items (c.len-half.result / 2), c.requires.short))

pub inner-requires-2-clause-fits : goal.inner-requires-2-clause-fits
inner-requires-2-clause-fits g c =
    rw c.in_ok-rest.ensures.tail (fits_joined_drop g.met.T.Summary.Summary.laws g.T.Item.sum_of g.met.T.Item.admitted c.args.children.items _ c.requires.fits)

pub returns-clause-split : goal.returns-clause-split
returns-clause-split g c =
    let ts = c.args.children.items in
    let k = c.len-half.result / 2 in
    let p = c.in_ok-front.ensures in
    let q = c.in_ok-back.ensures in
    let front : length c.split_off.new.self.items ≡ k = omega (arith, ap length c.in_ok-rest.ensures.items, length-take-le k ts (omega (arith, c.len-half.ensures, c.args.children.ok))) in
    let back : length c.in_ok-rest.rest.items ≡ length ts - k = omega (arith, ap length c.in_ok-rest.ensures.tail, length-drop k ts) in
    (rw (p.items, q.items, c.in_ok-rest.ensures.items, c.in_ok-rest.ensures.tail) (joined-split ts k), made_child c.args.height c.in_ok-front.front k p.height (p.width ∙ front) p.many (omega (arith, c.requires.many, c.len-half.ensures, c.args.children.ok)) (omega (arith, c.requires.most, c.len-half.ensures, c.args.children.ok)), made_child c.args.height c.in_ok-back.back (length ts - k) q.height (q.width ∙ back) q.many (omega (arith, c.requires.many, c.len-half.ensures, c.args.children.ok)) (omega (arith, c.requires.most, c.len-half.ensures, c.args.children.ok)))
