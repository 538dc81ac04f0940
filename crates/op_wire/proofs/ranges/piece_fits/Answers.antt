use Rattle.std.proofs.Common.{subst}
use Rattle.std.specs.Prelude.{IsUtf8}
use Rattle.op_wire.proofs.ranges.piece_fits.Goals as goal

pub returns : goal.returns
returns c = (c.range_fits.ensures.0, (c.range_fits.ensures.1, subst IsUtf8 c.as_str-text.ensures c.as_str-text.utf8))
