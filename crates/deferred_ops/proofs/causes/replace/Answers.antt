use Rattle.deferred_ops.proofs.OfWaiting.{fewer_than}
use Rattle.deferred_ops.proofs.causes.replace.Goals as goal

pub returns-in-Err-clause-fewer : goal.returns-in-Err-clause-fewer
returns-in-Err-clause-fewer c = λ _. fewer_than c.args.causes.now c.remove.new.self c.insert.new.self c.args.seen c.remove.ensures.updates.0 c.in-Err.ensures.err
