use Rattle.std.proofs.Common.{refl}
use Rattle.remote_edit.proofs.walk.walk_in.Goals as goal

pub pass_pieces-requires-clause-start : goal.pass_pieces-requires-clause-start
pass_pieces-requires-clause-start g c = refl

pub pass_pieces-requires-clause-place : goal.pass_pieces-requires-clause-place
pass_pieces-requires-clause-place g c = refl

pub pass_pieces-requires-clause-number : goal.pass_pieces-requires-clause-number
pass_pieces-requires-clause-number g c = refl

pub pass_pieces-requires-clause-fit : goal.pass_pieces-requires-clause-fit
pass_pieces-requires-clause-fit g c = c.requires.fit

pub pass_pieces-requires-clause-unseen : goal.pass_pieces-requires-clause-unseen
pass_pieces-requires-clause-unseen g c = c.requires.unseen

pub pass_pieces-requires-clause-room : goal.pass_pieces-requires-clause-room
pass_pieces-requires-clause-room g c = c.requires.room

pub pass_pieces-requires-clause-indexed : goal.pass_pieces-requires-clause-indexed
pass_pieces-requires-clause-indexed g c = c.requires.indexed
