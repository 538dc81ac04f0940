use Rattle.std.proofs.Common.{ap, ◌∙◌}
use Rattle.text_dims.specs.Summaries.{summary_of}
use Rattle.text_dims.proofs.Sums.{fold_is}
use Rattle.rope_chunks.proofs.rope.Rope.summary.Goals as goal

pub returns : goal.returns
returns c = c.summary.ensures ∙ fold_is c.self.inside.chunks.items ∙ ap summary_of c.self.view_is
