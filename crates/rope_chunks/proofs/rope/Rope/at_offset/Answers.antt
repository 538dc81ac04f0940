use Rattle.std.proofs.Common.{◌∙◌}
use Rattle.rope_chunks.proofs.Named.{found_at_offset}
use Rattle.rope_chunks.proofs.rope.Rope.at_offset.Goals as goal

pub returns : goal.returns
returns c = c.place.ensures ∙ found_at_offset c.args.self.now c.args.offset
