use Rattle.sum_tree.proofs.tree.SumTree.drop_front.Given as goal

abbrev pub ghosts-drop_front_with : goal.ghosts-drop_front_with
ghosts-drop_front_with g a = record { name = a.blank.name; parts = a.blank.parts }
