use Rattle.std.proofs.Common.{refl}
use Rattle.remote_edit.proofs.walk.Walk.after_change.Goals as goal

pub put_back-requires-clause-order : goal.put_back-requires-clause-order
put_back-requires-clause-order g c = c.requires.order

pub put_back-requires-clause-within : goal.put_back-requires-clause-within
put_back-requires-clause-within g c = c.requires.within

pub put_back-requires-clause-fit : goal.put_back-requires-clause-fit
put_back-requires-clause-fit g c = c.requires.fit

pub returns-clause-before : goal.returns-clause-before
returns-clause-before g c = c.in_ok-at.ensures.before

pub returns-clause-after : goal.returns-clause-after
returns-clause-after g c = c.in_ok-at.ensures.after

pub same-tree : goal.same-tree
same-tree g c = refl

pub same-index : goal.same-index
same-index g c = refl
