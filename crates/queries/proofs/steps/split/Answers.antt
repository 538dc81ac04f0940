use Rattle.queries.proofs.Queues.{fresh_forks}
use Rattle.queries.proofs.steps.split.Goals as goal

pub another-requires-clause-rule : goal.another-requires-clause-rule
another-requires-clause-rule g c = fresh_forks _ _ _ c.requires.fresh
