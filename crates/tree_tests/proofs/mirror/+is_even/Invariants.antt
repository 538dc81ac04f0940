use Rattle.tree_tests.proofs.mirror.+is_even.Given as goal

abbrev pub decreases-is_even : goal.decreases-is_even
decreases-is_even g l = l.height
