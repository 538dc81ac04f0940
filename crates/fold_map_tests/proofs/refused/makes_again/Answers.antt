use Rattle.fold_map_tests.proofs.Fronts.{front_of_same}
use Rattle.fold_map_tests.proofs.refused.makes_again.Goals as goal

pub sync_again-requires : goal.sync_again-requires
sync_again-requires c = front_of_same c.fold_both.new.map.history c.args.map.now.history c.args.now.now c.fold_both.ensures c.requires
