use Rattle.remote_edit.proofs.undo.mark_undo.Given as goal

abbrev pub ghosts-mark_with : goal.ghosts-mark_with
ghosts-mark_with a = record { name = a.blank.name; parts = a.blank.parts }
