use Rattle.queries.proofs.Queues.{merges, joined_rests, joined_rest}
use Rattle.queries.proofs.steps.join.Goals as goal

pub absorb-requires-clause-rule : goal.absorb-requires-clause-rule
absorb-requires-clause-rule g c = merges _ _ _ _ c.requires.editor c.requires.taken

pub learn_as-requires-clause-rule : goal.learn_as-requires-clause-rule
learn_as-requires-clause-rule g c = joined_rests _ _ _ _ _ c.absorb.ensures.rule

pub returns : goal.returns
returns g c = joined_rest _ _ _ _ c.absorb.ensures.rule c.learn_as.ensures.rule
