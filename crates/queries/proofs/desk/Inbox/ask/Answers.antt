use Rattle.std.proofs.Common.{List, ap}
use Rattle.op_model.specs.declared.operation.Operation.{Operation}
use Rattle.queries.specs.declared.job.Job.{Job}
use Rattle.queries.proofs.desk.Inbox.ask.Goals as goal

pub returns : goal.returns
returns g c =
    let job : Job g.row.Q.Denot = record { number = c.args.number; index = c.args.index; query = c.args.query; told = c.in_ok-told.told } in
    (job, ap (λ (h : List Operation). record { number = c.args.number; index = c.args.index; query = c.args.query; history = h }) c.in_ok-told.ensures.list, c.put.ensures)
