use Rattle.sum_tree.specs.Keyed.{Ascending}
use Rattle.tree_tests.proofs.trees.answers_few.Given as goal

abbrev pub invariant-loop-inserts : goal.invariant-loop-inserts
invariant-loop-inserts g l = Ascending g.T.Key.Ord.cmp g.T.KeyedItem.key_of l.tree.items
