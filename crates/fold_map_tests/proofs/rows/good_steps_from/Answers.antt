use Rattle.fold_map_tests.proofs.Fronts.{same_front}
use Rattle.fold_map_tests.proofs.rows.good_steps_from.Goals as goal

pub good_steps-requires : goal.good_steps-requires
good_steps-requires g c = same_front c.map_of-map.result.history c.args.authors.now.own.history c.map_of-map.ensures
