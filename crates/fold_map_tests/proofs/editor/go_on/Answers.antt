use Rattle.std.proofs.Common.{rules}
use Rattle.fold_map.proofs.Within.{later_within}
use Rattle.fold_map_tests.proofs.editor.go_on.Goals as goal

pub sync-requires : goal.sync-requires
sync-requires g c = λ n. later_within c.args.map.now.history c.args.buffer.now.history c.expect-snapshot.result (search rules) c.requires
