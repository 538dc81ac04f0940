use Rattle.op_wire.proofs.Prefixes.{faults_stay}
use Rattle.op_wire.proofs.laws.faults_stay.Goals as goal

pub returns : goal.returns
returns c = faults_stay
