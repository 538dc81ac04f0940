use Rattle.sum_tree.specs.Keyed.{Ascending}
use Rattle.tree_tests.proofs.trees.change_keys.Given as goal

abbrev pub invariant-loop-round : goal.invariant-loop-round
invariant-loop-round g l = Ascending g.T.Key.Ord.cmp g.T.KeyedItem.key_of l.tree.items
