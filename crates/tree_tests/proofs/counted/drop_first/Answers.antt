use Rattle.std.proofs.Common.{◌≤◌, ◌^◌, length, arith}
use Rattle.std.proofs.lemmas.Grind.{common_steps}
use Rattle.sum_tree.specs.Spliced.{splice_list}
use Rattle.sum_tree.proofs.Counts.{counts_fit}
use Rattle.tree_tests.proofs.counted.drop_first.Goals as goal

pub splice_counted-requires-clause-fits : goal.splice_counted-requires-clause-fits
splice_counted-requires-clause-fits g c =
    let short : length (splice_list 0 1 c.new.result.items c.args.tree.now.items) ≤ 2 ^ 40 = grind (arith, common_steps) in
    counts_fit (splice_list 0 1 c.new.result.items c.args.tree.now.items) short
