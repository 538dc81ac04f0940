use Rattle.std.proofs.Common.{rules}
use Rattle.fold_map_tests.proofs.Fronts.{front_of_same}
use Rattle.fold_map_tests.proofs.older.follows.Goals as goal

pub go_on-requires : goal.go_on-requires
go_on-requires g c = front_of_same c.fold.new.map.history c.args.map.now.history c.args.buffer.now.history c.fold.ensures c.requires
