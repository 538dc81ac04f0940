use Rattle.op_wire.proofs.Whole.{streams_are_read}
use Rattle.op_wire.proofs.laws.streams_are_read.Goals as goal

pub returns : goal.returns
returns c = streams_are_read
