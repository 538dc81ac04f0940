use Rattle.buffer_tests.proofs.counted.edit_and_count.Given as goal

abbrev pub ghosts-edit_with : goal.ghosts-edit_with
ghosts-edit_with a = record { name = a.blank.name; parts = a.blank.parts }
