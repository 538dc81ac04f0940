use Rattle.std.proofs.Common.{refl}
use Rattle.remote_edit.proofs.place.place_remote.Goals as goal

pub same-place_remote_into : goal.same-place_remote_into
same-place_remote_into c = refl

pub place_remote_into-requires : goal.place_remote_into-requires
place_remote_into-requires c = rw (c.in_ok-share.ensures, c.in_ok-share-2.ensures) c.requires

pub returns-clause-fragments : goal.returns-clause-fragments
returns-clause-fragments c = rw (← c.in_ok-share.ensures) c.place_remote_into.ensures.fragments

pub returns-clause-stands : goal.returns-clause-stands
returns-clause-stands c = rw (← c.in_ok-share.ensures, ← c.in_ok-share-2.ensures) c.place_remote_into.ensures.stands

pub returns-clause-moves : goal.returns-clause-moves
returns-clause-moves c = rw (← c.in_ok-share.ensures, ← c.in_ok-share-2.ensures) c.place_remote_into.ensures.moves

pub returns-clause-characters : goal.returns-clause-characters
returns-clause-characters c = rw (← c.in_ok-share.ensures, ← c.in_ok-share-2.ensures) c.place_remote_into.ensures.characters
