use Rattle.std.proofs.Common.{arith}
use Rattle.session_io.proofs.Moved.{some_input}
use Rattle.session_io.proofs.traffic.read_all.Goals as goal

pub returns-clause-large : goal.returns-clause-large
returns-clause-large g c = λ _. some_input _ _ _ c.args.limit c.loop-all.invariant.taken (omega (arith, c.loop-all-test.false, c.len.ensures))
