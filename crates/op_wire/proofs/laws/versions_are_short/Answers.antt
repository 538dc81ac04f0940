use Rattle.op_wire.proofs.Entries.{versions_are_short}
use Rattle.op_wire.proofs.laws.versions_are_short.Goals as goal

pub returns : goal.returns
returns c = versions_are_short
