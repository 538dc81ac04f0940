use denote.Exit.{yes}
use denote.Param.Send.{arg_send, param_send}
use Rattle.queries.proofs.Crossing.{desks_sent, outcome_sent}
use Rattle.queries.proofs.beside.work_beside.Goals as goal

pub run_beside-requires-send-D : goal.run_beside-requires-send-D
run_beside-requires-send-D g c κs within = param_send 1 _ (arg_send _ yes _ (desks_sent _ c.type_bounds.send-Q))

pub run_beside-requires-send-X : goal.run_beside-requires-send-X
run_beside-requires-send-X g c κs within = param_send 2 _ (arg_send _ yes _ (outcome_sent _ _ c.type_bounds.send-Q c.type_bounds.send-A))
