use Rattle.queries.proofs.Queues.{sends, sent_bound}
use Rattle.queries.proofs.steps.send.Goals as goal

pub push_as-requires-clause-rule : goal.push_as-requires-clause-rule
push_as-requires-clause-rule g c = (sends _ _ _ _ c.requires.editor c.requires.own, sent_bound _ _ c.requires.editor)
