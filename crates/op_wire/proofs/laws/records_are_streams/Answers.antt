use Rattle.op_wire.proofs.Whole.{records_are_streams}
use Rattle.op_wire.proofs.laws.records_are_streams.Goals as goal

pub returns : goal.returns
returns c = records_are_streams
