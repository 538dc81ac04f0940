use Rattle.std.proofs.Common.{ap, arith}
use Rattle.fragments.proofs.Counts.{own_cells}
use Rattle.buffer_tests.proofs.runs.add.Goals as goal
use Rattle.sum_tree.proofs.Counts.{fold_more}

pub push-requires-clause-fits : goal.push-requires-clause-fits
push-requires-clause-fits c =
    let n = own_cells c.args.fragment in
    rw (fold_more _ _ _ c.args.tree.now.items _) (omega (arith, n, ap (λ s. s.visible) c.summary-sum.ensures, ap (λ s. s.hidden) c.summary-sum.ensures))
