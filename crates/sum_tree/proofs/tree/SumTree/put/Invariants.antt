use Rattle.sum_tree.proofs.tree.SumTree.put.Given as goal

abbrev pub ghosts-put_with : goal.ghosts-put_with
ghosts-put_with g a = record { name = a.blank.name; parts = a.blank.parts }
