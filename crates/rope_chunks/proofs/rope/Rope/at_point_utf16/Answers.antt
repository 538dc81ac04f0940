use Rattle.std.proofs.Common.{◌∙◌}
use Rattle.rope_chunks.proofs.Named.{found_at_point_utf16}
use Rattle.rope_chunks.proofs.rope.Rope.at_point_utf16.Goals as goal

pub returns : goal.returns
returns c = c.place.ensures ∙ found_at_point_utf16 c.args.self.now c.args.point
