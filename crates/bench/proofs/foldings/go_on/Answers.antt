use Rattle.std.proofs.Common.{rules}
use Rattle.fold_map.proofs.Within.{later_within}
use Rattle.bench.proofs.foldings.go_on.Goals as goal

pub sync-requires : goal.sync-requires
sync-requires c = λ n. later_within c.args.map.now.history c.args.buffer.now.history c.in_ok-snapshot.snapshot (search rules) c.requires
