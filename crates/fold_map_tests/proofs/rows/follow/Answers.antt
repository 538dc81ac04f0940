use Rattle.fold_map_tests.proofs.Fronts.{same_front}
use Rattle.fold_map_tests.proofs.rows.follow.Goals as goal

pub returns : goal.returns
returns g c = same_front c.go_on.new.map.history c.args.buffer.now.history c.go_on.ensures
