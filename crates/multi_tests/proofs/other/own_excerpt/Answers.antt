use Rattle.op_model.specs.Steps.{new_state}
use Rattle.multi_buffer.specs.State.{history_of}
use Rattle.multi_tests.proofs.Going.{opened_is}
use Rattle.multi_tests.proofs.other.own_excerpt.Goals as goal

pub returns : goal.returns
returns g c = opened_is c.open-buffer.result (new_state c.args.base.now) (history_of 0 c.excerpt_of.result.synced) c.excerpt_of.ensures c.open-buffer.ensures
