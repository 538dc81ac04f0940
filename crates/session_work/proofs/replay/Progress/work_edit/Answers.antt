use Rattle.session_work.proofs.Steps.{ok_state}
use Rattle.session_work.proofs.replay.Progress.work_edit.Goals as goal

pub returns-clause-state : goal.returns-clause-state
returns-clause-state c = ok_state _ _ c.edit.result _ _ _ _ c.edit.ensures.buffers c.edit.ensures.operations
