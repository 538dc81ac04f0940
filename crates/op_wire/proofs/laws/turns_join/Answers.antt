use Rattle.op_wire.proofs.Turns.{turns_join}
use Rattle.op_wire.proofs.laws.turns_join.Goals as goal

pub returns : goal.returns
returns c = turns_join
