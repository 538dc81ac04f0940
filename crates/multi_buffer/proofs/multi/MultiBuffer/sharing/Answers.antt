use Rattle.std.proofs.Common.{ap, ◌∙◌}
use Rattle.multi_buffer.specs.Splits.{sharing}
use Rattle.multi_buffer.specs.State.{MultiState}
use Rattle.multi_buffer.proofs.multi.MultiBuffer.sharing.Goals as goal

pub returns : goal.returns
returns c = c.sharing.ensures ∙ ap (λ (m : MultiState). sharing 0 c.args.part m.excerpts) c.self.view_is
