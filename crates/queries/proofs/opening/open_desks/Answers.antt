use Rattle.std.proofs.Common.{sym, ap, ◌∙◌}
use Rattle.queries.specs.States.{PublishersState}
use Rattle.queries.proofs.opening.open_desks.Goals as goal

pub open_queues-requires-clause-count : goal.open_queues-requires-clause-count
open_queues-requires-clause-count g c = c.in_ok-readers_by_worker.ensures.count ∙ sym (ap (λ (s : PublishersState). s.workers) c.publishers.view_is)
