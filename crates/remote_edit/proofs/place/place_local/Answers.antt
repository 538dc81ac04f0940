use Rattle.std.proofs.Common.{refl}
use Rattle.remote_edit.proofs.place.place_local.Goals as goal

pub same-version : goal.same-version
same-version g c = refl

pub same-place_local_into : goal.same-place_local_into
same-place_local_into g c = refl

pub place_local_into-requires : goal.place_local_into-requires
place_local_into-requires g c = rw (c.in_ok-share.ensures, c.in_ok-share-2.ensures) c.requires

pub returns-clause-made : goal.returns-clause-made
returns-clause-made g c = rw (← c.in_ok-share.ensures, ← c.in_ok-share-2.ensures) c.place_local_into.ensures.made

pub returns-clause-fragments : goal.returns-clause-fragments
returns-clause-fragments g c = rw (← c.in_ok-share.ensures) c.place_local_into.ensures.fragments

pub returns-clause-stands : goal.returns-clause-stands
returns-clause-stands g c = rw (← c.in_ok-share.ensures, ← c.in_ok-share-2.ensures) c.place_local_into.ensures.stands

pub returns-clause-moves : goal.returns-clause-moves
returns-clause-moves g c = rw (← c.in_ok-share.ensures, ← c.in_ok-share-2.ensures) c.place_local_into.ensures.moves

pub returns-clause-characters : goal.returns-clause-characters
returns-clause-characters g c = rw (← c.in_ok-share.ensures, ← c.in_ok-share-2.ensures) c.place_local_into.ensures.characters

pub returns-clause-cost : goal.returns-clause-cost
returns-clause-cost g c = rw (← c.in_ok-share.ensures) c.place_local_into.ensures.cost
