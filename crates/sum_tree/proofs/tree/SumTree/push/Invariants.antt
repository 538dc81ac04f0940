use Rattle.sum_tree.proofs.tree.SumTree.push.Given as goal

abbrev pub ghosts-push_with : goal.ghosts-push_with
ghosts-push_with g a = record { name = a.blank.name; parts = a.blank.parts }
