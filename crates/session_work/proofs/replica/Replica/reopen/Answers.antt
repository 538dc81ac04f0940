use Rattle.std.proofs.Common.{ap, ◌∙◌}
use Rattle.text_buffer.specs.Buffer.{BufferState}
use Rattle.session_work.proofs.replica.Replica.reopen.Goals as goal

pub invariant_of-self : goal.invariant_of-self
invariant_of-self c = ap (λ (b : BufferState). b.replica) c.in_ok-self-inside.ensures ∙ c.self.invariant
