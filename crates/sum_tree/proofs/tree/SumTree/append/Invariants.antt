use Rattle.sum_tree.proofs.tree.SumTree.append.Given as goal

abbrev pub ghosts-append_with : goal.ghosts-append_with
ghosts-append_with g a = record { name = a.blank.name; parts = a.blank.parts }
