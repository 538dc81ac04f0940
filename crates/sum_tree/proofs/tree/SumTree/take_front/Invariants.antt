use Rattle.sum_tree.proofs.tree.SumTree.take_front.Given as goal

abbrev pub ghosts-take_front_with : goal.ghosts-take_front_with
ghosts-take_front_with g a = record { name = a.blank.name; parts = a.blank.parts }
