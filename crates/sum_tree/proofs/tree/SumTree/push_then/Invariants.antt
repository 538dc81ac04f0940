use Rattle.sum_tree.proofs.tree.SumTree.push_then.Given as goal

abbrev pub ghosts-push_then_with : goal.ghosts-push_then_with
ghosts-push_then_with g a = record { name = a.blank.name; parts = a.blank.parts }
