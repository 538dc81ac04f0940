use Rattle.sum_tree.proofs.Keys.{IsAround}
use Rattle.sum_tree.proofs.tree.SumTree.position.Given as goal

abbrev pub invariant-loop-entries : goal.invariant-loop-entries
invariant-loop-entries g l = IsAround g.T.Key.Ord.cmp g.T.KeyedItem.key_of l.key l.fn.self.items l.before l.node.items

abbrev pub decreases-loop-entries : goal.decreases-loop-entries
decreases-loop-entries g l = l.node.height
