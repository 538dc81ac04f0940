use Rattle.remote_edit.proofs.among.moves_among.Given as goal

abbrev pub ghosts-moves_with : goal.ghosts-moves_with
ghosts-moves_with g a = record { name = a.blank.name; parts = a.blank.parts }
