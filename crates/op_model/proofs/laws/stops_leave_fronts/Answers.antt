use Rattle.op_model.proofs.MainLaws.{stops_leave_fronts}
use Rattle.op_model.proofs.laws.stops_leave_fronts.Goals as goal

pub returns : goal.returns
returns c = stops_leave_fronts
