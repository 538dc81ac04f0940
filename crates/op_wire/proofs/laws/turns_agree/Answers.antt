use Rattle.op_wire.proofs.Turns.{turns_agree}
use Rattle.op_wire.proofs.laws.turns_agree.Goals as goal

pub returns : goal.returns
returns c = turns_agree
