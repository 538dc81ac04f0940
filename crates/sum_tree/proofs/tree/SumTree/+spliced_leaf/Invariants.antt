use Rattle.sum_tree.proofs.tree.SumTree.+spliced_leaf.Given as goal

abbrev pub decreases-spliced_leaf : goal.decreases-spliced_leaf
decreases-spliced_leaf g l = goal.size-spliced_leaf g l
