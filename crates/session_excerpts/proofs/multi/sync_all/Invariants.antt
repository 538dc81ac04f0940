use Rattle.std.proofs.Common.{◌≡◌, ◌+◌, drop, length, take}
use Rattle.std.specs.Vec.Iter.{into_iter_items, into_iter_len}
use Rattle.session_excerpts.specs.State.{GoOnFrom, sync_all}
use Rattle.session_excerpts.proofs.multi.sync_all.Given as goal

abbrev pub invariant-loop-snapshot : goal.invariant-loop-snapshot
invariant-loop-snapshot l = record {
  count : l.replica + into_iter_len l.snapshots ≡ length l.fn.snapshots.items;
  rest : into_iter_items l.snapshots ≡ drop l.replica l.fn.snapshots.items;
  multi : l.multi ≡ sync_all (take l.replica l.fn.snapshots.items) l.fn.multi;
  within : GoOnFrom l.replica (into_iter_items l.snapshots) l.multi.synced;
}

abbrev pub decreases-loop-snapshot : goal.decreases-loop-snapshot
decreases-loop-snapshot l = into_iter_len l.snapshots
