use Rattle.std.proofs.Common.{length}
use Rattle.text_buffer.proofs.OnWay.{OnWay}
use Rattle.text_buffer.proofs.buffer.Buffer.pass.Given as goal

abbrev pub invariant-loop-stamp : goal.invariant-loop-stamp
invariant-loop-stamp l = OnWay l.fn.self l.after l.self

abbrev pub decreases-loop-stamp : goal.decreases-loop-stamp
decreases-loop-stamp l = length l.self.waiting
