use Rattle.op_wire.proofs.Whole.{streams_are_records}
use Rattle.op_wire.proofs.laws.streams_are_records.Goals as goal

pub returns : goal.returns
returns c = streams_are_records
