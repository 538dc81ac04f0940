use Rattle.std.proofs.Common.{ℕ, [], ◌∷◌, ◌++◌, arith, length-append}
use Rattle.sum_tree.proofs.Counts.{counts_fit}
use Rattle.tree_tests.specs.declared.ranked.Number.{Number}
use Rattle.tree_tests.proofs.counted.push_to.Goals as goal

abbrev of_key : ℕ → Number
of_key key = record { key = key }

pub push_counted-requires-clause-fits : goal.push_counted-requires-clause-fits
push_counted-requires-clause-fits g c =
    counts_fit (c.args.tree.now.items ++ (of_key c.args.key ∷ [])) (omega (arith, length-append c.args.tree.now.items (of_key c.args.key ∷ []), c.if-len-ge1000000.false, c.len.ensures))
