use Rattle.std.proofs.Common.{◌∙◌}
use Rattle.rope_chunks.proofs.PointClips.{point_back}
use Rattle.rope_chunks.proofs.rope.Rope.point_back.Goals as goal

pub returns : goal.returns
returns c = c.back.ensures ∙ point_back c.args.self.now c.args.point c.known.ensures.text
