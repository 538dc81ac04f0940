use Rattle.queries.proofs.Queues.{begins}
use Rattle.queries.proofs.open.open_queue.Goals as goal

pub ruled-requires-clause-rule : goal.ruled-requires-clause-rule
ruled-requires-clause-rule g c = begins
