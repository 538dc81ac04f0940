use Rattle.sum_tree.proofs.here.push_alone.Given as goal

abbrev pub ghosts-push_here_with : goal.ghosts-push_here_with
ghosts-push_here_with g a = record { name = a.blank.name; parts = a.blank.parts }
