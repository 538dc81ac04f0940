use Rattle.op_wire.proofs.Prefixes.{read_is_spelled}
use Rattle.op_wire.proofs.laws.read_is_spelled.Goals as goal

pub returns : goal.returns
returns c = read_is_spelled
