use Rattle.sum_tree.proofs.tree.SumTree.new.Given as goal

abbrev pub ghosts-from_entries_with : goal.ghosts-from_entries_with
ghosts-from_entries_with g a = record { name = a.blank.name; parts = a.blank.parts }
