use Rattle.std.proofs.Common.{◌++◌, arith, length-append}
use Rattle.tree_tests.proofs.changes.append_to.Goals as goal

pub append-requires-clause-fits : goal.append-requires-clause-fits
append-requires-clause-fits g c =
    g.met.T.Numbered.sums_fit (c.args.front.now.items ++ c.args.back.items) (omega (arith, length-append c.args.front.now.items c.args.back.items, c.if-len-ge-MOST.false, c.len.ensures))
