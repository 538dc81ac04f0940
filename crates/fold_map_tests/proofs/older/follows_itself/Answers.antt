use Rattle.fold_map_tests.proofs.Fronts.{same_front}
use Rattle.fold_map_tests.proofs.older.follows_itself.Goals as goal

pub follows-requires : goal.follows-requires
follows-requires g c = same_front c.map_of-map.result.history c.args.buffer.now.history c.map_of-map.ensures
