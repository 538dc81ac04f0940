use Rattle.std.proofs.Common.{ap, ◌∙◌}
use Rattle.multi_buffer.specs.Lengths.{size_sum}
use Rattle.multi_buffer.specs.declared.lengths.Lengths.{Lengths}
use Rattle.multi_buffer.proofs.Sums.{whole}
use Rattle.multi_buffer.proofs.excerpts.Excerpts.bytes.Goals as goal

pub returns : goal.returns
returns c = ap (λ (x : Lengths). x.bytes) (c.summary.ensures ∙ whole c.self.inside.tree.items) ∙ ap size_sum c.self.view_is
