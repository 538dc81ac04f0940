use Rattle.tree_tests.proofs.counted.answers.Given as goal

abbrev pub ghosts-answers_with : goal.ghosts-answers_with
ghosts-answers_with a = record { name = a.blank.name; parts = a.blank.parts }
