use Rattle.op_answers.proofs.twice.find_by_comparing.Goals as goal
use Rattle.op_model.proofs.answers.Repeats.{goes_on}

pub loop-i-preserved : goal.loop-i-preserved
loop-i-preserved c = goes_on c.args.stamps.now c.loop-i.i (record { value = 0; replica = 0 }) _ c.stands_in.result c.loop-i-test.true c.stands_in.ensures c.if-stands_in.false c.loop-i.invariant
