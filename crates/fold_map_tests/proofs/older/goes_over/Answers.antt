use Rattle.op_model.specs.Steps.{new_state}
use Rattle.fold_map_tests.proofs.Fronts.{front_of_same}
use Rattle.fold_map_tests.proofs.older.goes_over.Goals as goal

pub follows-requires : goal.follows-requires
follows-requires g c = front_of_same c.map_over_base-map.result.history (new_state c.args.base.now).history c.other_buffer-buffer.result.history c.map_over_base-map.ensures c.other_buffer-buffer.ensures
