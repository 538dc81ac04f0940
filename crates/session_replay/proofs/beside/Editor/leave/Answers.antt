use Rattle.std.proofs.Common.{ap, ◌∙◌}
use Rattle.queries.specs.Published.{columns, rows_of}
use Rattle.session_replay.proofs.Leaving.{leaves}
use Rattle.session_replay.proofs.beside.Editor.leave.Goals as goal

pub returns-clause-left : goal.returns-clause-left
returns-clause-left g c = λ asks a.
    leaves _ asks c.args.self.dispatcher c.args.publishers.now a _ c.end-inboxes.ensures.queues c.end-inboxes.ensures.pairs (c.end-inboxes.ensures.ended asks a.asked)
    (c.in_ok-tolds.ensures.pairs ∙ ap (λ n. columns n (rows_of c.args.publishers.now)) c.requires.workers) c.in_ok-tolds.ensures.lists c.in_ok-sizes.ensures c.count-count.ensures
