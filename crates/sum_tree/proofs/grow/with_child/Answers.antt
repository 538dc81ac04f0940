use Rattle.std.proofs.Common.{◌≤◌, ◌+◌, length, ap, arith}
use Rattle.std.proofs.lemmas.Result.{IfOk-weaker}
use Rattle.sum_tree.specs.Shape.{join_items}
use Rattle.sum_tree.proofs.Pairs.{run_children, pair_length, pair_few}
use Rattle.sum_tree.proofs.Widths.{split_widened}
use Rattle.sum_tree.proofs.grow.with_child.Goals as goal

pub inners-requires-clause-children : goal.inners-requires-clause-children
inners-requires-clause-children g c =
    rw c.in_ok-children.ensures (run_children c.args.height c.args.nodes.now c.args.k (c.args.k + 1) c.args.front c.args.back c.requires.children c.requires.pair)

pub inners-requires-clause-least : goal.inners-requires-clause-least
inners-requires-clause-least g c =
    omega (arith, ap length c.in_ok-children.ensures, pair_length c.args.nodes.now c.args.k c.args.front c.args.back c.requires.within, (pair_few c.args.front c.args.back).0, c.requires.least)

pub inners-requires-clause-most : goal.inners-requires-clause-most
inners-requires-clause-most g c =
    omega (arith, ap length c.in_ok-children.ensures, pair_length c.args.nodes.now c.args.k c.args.front c.args.back c.requires.within, (pair_few c.args.front c.args.back).1, c.requires.most)

pub inners-requires-clause-short : goal.inners-requires-clause-short
inners-requires-clause-short g c = rw c.in_ok-children.ensures c.requires.short

pub inners-requires-clause-fits : goal.inners-requires-clause-fits
inners-requires-clause-fits g c = rw c.in_ok-children.ensures c.requires.fits

pub returns-clause-split : goal.returns-clause-split
returns-clause-split g c =
    let wide : length c.args.nodes.now ≤ length c.in_ok-children.children.items = omega (arith, ap length c.in_ok-children.ensures, pair_length c.args.nodes.now c.args.k c.args.front c.args.back c.requires.within, (pair_few c.args.front c.args.back).0) in
    IfOk-weaker c.inners.result _ _ (λ p s. split_widened c.args.height (length c.in_ok-children.children.items) (length c.args.nodes.now) _ _ p.0 p.1 wide (ap join_items c.in_ok-children.ensures) s) c.inners.ensures.split
