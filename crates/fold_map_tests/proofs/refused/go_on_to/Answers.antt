use Rattle.std.proofs.Common.{rules}
use Rattle.fold_map.proofs.Within.{later_within}
use Rattle.fold_map_tests.proofs.refused.go_on_to.Goals as goal

pub sync-requires : goal.sync-requires
sync-requires c = λ n. later_within c.args.map.now.history c.args.snapshot.now c.in_ok-shared.shared (search rules) c.requires
