use Rattle.remote_edit.proofs.undo.mark_undo_by_index.Given as goal

abbrev pub ghosts-by_index_with : goal.ghosts-by_index_with
ghosts-by_index_with a = record { name = a.blank.name; parts = a.blank.parts }
