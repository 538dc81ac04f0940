use Rattle.std.proofs.Common.{rules, sym, subst, slice_index_or}
use Rattle.std.proofs.lemmas.Result.{IfOk-weaker}
use Rattle.queries.specs.Answers.{HasWorked}
use Rattle.queries.specs.States.{DeskState}
use denote.Exit.{yes}
use denote.Param.Send.{arg_send, param_send}
use Rattle.queries.proofs.Crossing.{desk_sent, done_sent}
use Rattle.queries.proofs.beside.work_all.Goals as goal

pub map_vec-requires-send-J : goal.map_vec-requires-send-J
map_vec-requires-send-J g c κs within = param_send 1 _ (arg_send _ yes _ (desk_sent _ c.type_bounds.send-Q))

pub map_vec-requires-send-X : goal.map_vec-requires-send-X
map_vec-requires-send-X g c κs within = param_send 2 _ (arg_send _ yes _ (done_sent _ _ c.type_bounds.send-Q c.type_bounds.send-A))

pub returns-clause-worked : goal.returns-clause-worked
returns-clause-worked g c = IfOk-weaker c.map_vec.result _ _
    (λ v h i d e below. let j = (h i d below).1 in
    subst (λ (x : DeskState). HasWorked g.Q.Query.plain x (slice_index_or v.items i d)) (sym (j.job_is e)) (let k = j.call in search rules))
    c.map_vec.ensures.each
