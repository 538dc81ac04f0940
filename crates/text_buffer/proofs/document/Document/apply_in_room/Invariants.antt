use Rattle.text_buffer.proofs.document.Document.apply_in_room.Given as goal

abbrev pub ghosts-push_with : goal.ghosts-push_with
ghosts-push_with a = record { name = a.blank.name; parts = a.blank.parts }
