use Rattle.std.proofs.Common.{arith}
use Rattle.sum_tree.proofs.Made.{inner_alone}
use Rattle.sum_tree.proofs.grow.inners.Goals as goal

pub returns-then-len-le-MOST-clause-split : goal.returns-then-len-le-MOST-clause-split
returns-then-len-le-MOST-clause-split g c =
    let p = c.in_ok-inner.ensures in
    inner_alone c.args.height c.args.children.items c.in_ok-inner.field-0 p.items p.height p.width p.many (omega (arith, c.if-len-le-MOST.true, c.len.ensures, c.args.children.ok))
