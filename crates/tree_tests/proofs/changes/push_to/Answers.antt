use Rattle.std.proofs.Common.{[], ◌∷◌, ◌++◌, arith, length-append}
use Rattle.tree_tests.proofs.changes.push_to.Goals as goal

pub push-requires-clause-fits : goal.push-requires-clause-fits
push-requires-clause-fits g c =
    g.met.T.Numbered.sums_fit (c.args.tree.now.items ++ (c.in_ok-item.item ∷ [])) (omega (arith, length-append c.args.tree.now.items (c.in_ok-item.item ∷ []), c.if-len-ge-MOST.false, c.len.ensures))
