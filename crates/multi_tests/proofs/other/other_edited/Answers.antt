use Rattle.op_model.specs.Steps.{new_state}
use Rattle.multi_tests.proofs.Going.{opened_within}
use Rattle.multi_tests.proofs.other.other_edited.Goals as goal

pub returns : goal.returns
returns g c = opened_within c.open-buffer.result (new_state c.args.base.now) c.change.new.buffer.history c.open-buffer.ensures c.change.ensures
