use Rattle.op_wire.proofs.Turns.{cuts_do_not_matter}
use Rattle.op_wire.proofs.laws.cuts_do_not_matter.Goals as goal

pub returns : goal.returns
returns c = cuts_do_not_matter
