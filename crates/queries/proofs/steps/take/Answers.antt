use Rattle.queries.proofs.Queues.{gets}
use Rattle.queries.proofs.steps.take.Goals as goal

pub pop_as-requires-clause-rule : goal.pop_as-requires-clause-rule
pop_as-requires-clause-rule g c = (gets _ _ c.requires.worker, λ _ _ _ _. tt)
