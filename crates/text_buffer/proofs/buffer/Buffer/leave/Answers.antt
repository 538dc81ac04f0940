use Rattle.text_buffer.proofs.OnWay.{IsBufferInside-without}
use Rattle.text_buffer.proofs.buffer.Buffer.leave.Goals as goal

pub invariant_of-self : goal.invariant_of-self
invariant_of-self c = IsBufferInside-without c.self.inside c.args.stamp c.remove.new.self c.self.invariant c.remove.ensures.rest
