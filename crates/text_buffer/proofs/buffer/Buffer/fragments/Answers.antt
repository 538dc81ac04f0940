use Rattle.std.proofs.Common.{◌∙◌, ap}
use Rattle.remote_edit.specs.Fragments.{fragments_of}
use Rattle.text_buffer.specs.Buffer.{BufferState}
use Rattle.text_buffer.proofs.buffer.Buffer.fragments.Goals as goal

pub returns : goal.returns
returns c = c.content.ensures.fragments ∙ ap (λ (b : BufferState). fragments_of b.history) c.self.view_is
