use Rattle.tree_tests.proofs.cursors.counted_spot.Given as goal

abbrev pub ghosts-spot_with : goal.ghosts-spot_with
ghosts-spot_with a = record { name = a.blank.name; parts = a.blank.parts }
