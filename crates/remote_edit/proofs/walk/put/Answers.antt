use Rattle.std.proofs.Common.{arith, length}
use Rattle.remote_edit.proofs.Intake.{put_few}
use Rattle.remote_edit.proofs.walk.put.Goals as goal
use Rattle.fragments.proofs.Cells.{few, fits}

pub exchange_counted-requires-clause-short : goal.exchange_counted-requires-clause-short
exchange_counted-requires-clause-short g c = let k = few _ c.requires.fit.0 in omega (arith, k, c.requires.fit.1)

pub exchange_counted-requires-clause-fits : goal.exchange_counted-requires-clause-fits
exchange_counted-requires-clause-fits g c = fits _ c.requires.fit.1

pub returns-clause-cost : goal.returns-clause-cost
returns-clause-cost g c =
    let e = c.exchange_counted.ensures in
    put_few c.args.steps.now c.exchange_counted.new.steps c.args.from c.args.to (length c.args.fragments.items) c.args.tree.now.height c.known.ensures.low e.cost e.narrow
