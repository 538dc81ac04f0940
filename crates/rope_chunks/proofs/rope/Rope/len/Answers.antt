use Rattle.std.proofs.Common.{ap}
use Rattle.text_dims.specs.Summaries.{summary_of}
use Rattle.rope_chunks.proofs.rope.Rope.len.Goals as goal

pub returns : goal.returns
unfolding summary_of
returns c = ap (λ s. s.len) c.summary.ensures
