use Rattle.std.proofs.Common.{◌++◌, length, ap, arith, length-append}
use Rattle.sum_tree.proofs.Counts.{counts_fit}
use Rattle.tree_tests.proofs.counted.append_to.Goals as goal

pub append_counted-requires-clause-fits : goal.append_counted-requires-clause-fits
append_counted-requires-clause-fits g c =
    counts_fit (c.args.tree.now.items ++ c.in_ok-last.last.items) (omega (arith, length-append c.args.tree.now.items c.in_ok-last.last.items, ap length c.in_ok-last.ensures.items, c.if-len-ge1000000.false, c.len.ensures))
