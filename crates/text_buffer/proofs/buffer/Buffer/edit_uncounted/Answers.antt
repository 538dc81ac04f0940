use Rattle.text_buffer.proofs.EditResult.{history_grows, is_step, is_step_or_memory}
use Rattle.text_buffer.proofs.buffer.Buffer.edit_uncounted.Goals as goal

pub returns-clause-history : goal.returns-clause-history
returns-clause-history c = history_grows _ _ _ _ c.edit_with.ensures

pub returns-clause-step : goal.returns-clause-step
returns-clause-step c = is_step _ _ _ _ c.edit_with.ensures

pub returns-clause-refused : goal.returns-clause-refused
returns-clause-refused c = is_step_or_memory _ _ _ _ c.edit_with.ensures
