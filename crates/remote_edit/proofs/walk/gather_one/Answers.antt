use Rattle.std.proofs.Common.{refl}
use Rattle.remote_edit.proofs.walk.gather_one.Goals as goal

pub same-index : goal.same-index
same-index c = refl

pub gather_in-requires-clause-unseen : goal.gather_in-requires-clause-unseen
gather_in-requires-clause-unseen c = c.requires.unseen

pub gather_in-requires-clause-fit : goal.gather_in-requires-clause-fit
gather_in-requires-clause-fit c = rw c.in_ok-share.ensures c.requires.fit

pub gather_in-requires-clause-room : goal.gather_in-requires-clause-room
gather_in-requires-clause-room c = rw c.in_ok-share.ensures c.requires.room

pub gather_in-requires-clause-indexed : goal.gather_in-requires-clause-indexed
gather_in-requires-clause-indexed c = rw c.in_ok-share.ensures c.requires.indexed

pub returns-clause-within : goal.returns-clause-within
returns-clause-within c = rw (← c.in_ok-share.ensures) c.gather_in.ensures.within

pub returns-clause-order : goal.returns-clause-order
returns-clause-order c = c.gather_in.ensures.order

pub returns-clause-passed : goal.returns-clause-passed
returns-clause-passed c = rw (← c.in_ok-share.ensures) c.gather_in.ensures.passed

pub returns-clause-gathered : goal.returns-clause-gathered
returns-clause-gathered c = rw (← c.in_ok-share.ensures) c.gather_in.ensures.gathered

pub returns-clause-indexed : goal.returns-clause-indexed
returns-clause-indexed c = rw (← c.in_ok-share.ensures) c.gather_in.ensures.indexed

pub returns-clause-few : goal.returns-clause-few
returns-clause-few c = rw (← c.in_ok-share.ensures) c.gather_in.ensures.few
