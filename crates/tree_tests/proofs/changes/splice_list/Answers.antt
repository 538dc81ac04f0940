use Rattle.std.proofs.Common.{◌≤◌, ◌^◌, length, arith}
use Rattle.sum_tree.specs.Spliced.{splice_list}
use Rattle.sum_tree.proofs.Lists.{spliced_short}
use Rattle.tree_tests.proofs.changes.splice_list.Goals as goal

pub splice-requires-clause-fits : goal.splice-requires-clause-fits
splice-requires-clause-fits g c =
    let all = splice_list c.args.from c.args.to c.args.items.items c.args.tree.now.items in
    let short : length all ≤ 2 ^ 40 = grind (arith, spliced_short) in
    g.met.T.Numbered.sums_fit all short
