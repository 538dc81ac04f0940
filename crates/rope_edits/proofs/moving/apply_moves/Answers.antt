use Rattle.rope_edits.proofs.moving.apply_moves.Goals as goal

pub apply_moves_into-requires-clause-texts : goal.apply_moves_into-requires-clause-texts
apply_moves_into-requires-clause-texts c = rw (c.in_ok-shown.ensures, c.in_ok-hidden.ensures) c.requires.texts

pub apply_moves_into-requires-clause-room : goal.apply_moves_into-requires-clause-room
apply_moves_into-requires-clause-room c = rw (c.in_ok-shown.ensures, c.in_ok-hidden.ensures) c.requires.room

pub returns : goal.returns
returns c = rw (← c.in_ok-shown.ensures, ← c.in_ok-hidden.ensures) c.apply_moves_into.ensures
