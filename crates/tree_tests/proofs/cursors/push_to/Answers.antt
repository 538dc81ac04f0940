use Rattle.std.proofs.Common.{ap, arith}
use Rattle.tree_tests.proofs.cursors.push_to.Goals as goal
use Rattle.sum_tree.proofs.Counts.{fold_more}

pub push-requires-clause-fits : goal.push-requires-clause-fits
push-requires-clause-fits c =
    rw (fold_more _ _ _ c.args.tree.now.items _) (omega (arith, ap (λ s. s.items) c.summary-sum.ensures), omega (arith, ap (λ s. s.width) c.summary-sum.ensures), omega (arith, ap (λ s. s.odd) c.summary-sum.ensures))
