use Rattle.selections.proofs.Keeping.{own_later}
use Rattle.selections.proofs.sets.SelectionSets.set.Goals as goal

pub returns-in_ok-make-in-None-clause-later : goal.returns-in_ok-make-in-None-clause-later
returns-in_ok-make-in-None-clause-later c =
    own_later c.in_ok-make-in-None.field-0 c.args.self.now c.args.self.now.replica c.known.ensures c.in_ok-make-in-None.ensures.stamp
