use Rattle.std.proofs.Common.{rules}
use Rattle.multi_buffer.specs.State.{history_of}
use Rattle.multi_tests.proofs.Going.{within_snapshot}
use Rattle.multi_tests.proofs.other.go_on.Goals as goal

pub sync-requires : goal.sync-requires
sync-requires g c = within_snapshot (history_of 0 c.args.multi.now.synced) c.args.buffer.now.history c.expect-snapshot.result (search rules) c.requires
