use Rattle.text_buffer.proofs.buffer.Buffer.edit_uncounted.Given as goal

abbrev pub ghosts-edit_with : goal.ghosts-edit_with
ghosts-edit_with a = record { name = a.blank.name; parts = a.blank.parts }
