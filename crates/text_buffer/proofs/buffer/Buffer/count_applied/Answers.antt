use Rattle.std.proofs.Common.{length, ap, ◌∙◌}
use Rattle.text_buffer.specs.Buffer.{BufferState}
use Rattle.text_buffer.proofs.buffer.Buffer.count_applied.Goals as goal

pub returns : goal.returns
returns c = c.len.ensures ∙ ap length c.operations.ensures ∙ ap (λ (b : BufferState). length b.history) c.self.view_is
