use Rattle.std.proofs.Common.{◌∙◌}
use Rattle.rope_chunks.proofs.Clipping.{clipped_back}
use Rattle.rope_chunks.proofs.rope.Rope.place_back.Goals as goal

pub returns : goal.returns
returns c = c.back.ensures ∙ clipped_back c.args.self.now c.args.offset c.known.ensures.text
