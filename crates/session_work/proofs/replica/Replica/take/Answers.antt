use Rattle.session_work.proofs.Growth.{grown_by_take}
use Rattle.session_work.proofs.replica.Replica.take.Goals as goal

pub returns-clause-grows : goal.returns-clause-grows
returns-clause-grows c = grown_by_take c.take.result c.args.operation c.args.self.now c.self.inside.buffer c.take.new.self (cc c.self.view_is) c.take.ensures.new c.take.ensures.stopped
