use Rattle.op_wire.proofs.Whole.{pieces_are_read}
use Rattle.op_wire.proofs.laws.pieces_are_read.Goals as goal

pub returns : goal.returns
returns c = pieces_are_read
