use Rattle.fold_map_tests.proofs.Fronts.{front_of_same}
use Rattle.fold_map_tests.proofs.refused.comes_through.Goals as goal

pub makes_again-requires : goal.makes_again-requires
makes_again-requires c = front_of_same c.in-Some.map.history c.args.then.now c.args.now.now c.in-Some.ensures c.requires
