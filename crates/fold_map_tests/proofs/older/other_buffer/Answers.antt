use Rattle.std.proofs.Common.{ap, sym}
use Rattle.op_model.specs.Settled.{State}
use Rattle.op_model.specs.Steps.{new_state}
use Rattle.fold_map_tests.proofs.Fronts.{front_of_same}
use Rattle.fold_map_tests.proofs.older.other_buffer.Goals as goal

pub returns : goal.returns
returns g c = front_of_same (new_state c.args.base.now).history c.open_as-buffer.result.history c.edit.new.buffer.history (sym (ap (λ (s : State). s.history) c.open_as-buffer.ensures)) c.edit.ensures
