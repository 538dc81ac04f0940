use Rattle.std.proofs.Common.{◌≡◌}
use Rattle.std.specs.Vec.Iter.{into_iter_items, into_iter_len}
use Rattle.buffer_handles.proofs.Takes.{IsTaking}
use Rattle.buffer_handles.proofs.taking.take_all.Given as goal

abbrev pub invariant-loop-op : goal.invariant-loop-op
invariant-loop-op l = IsTaking l.fn.buffer l.fn.ops.items l.buffer (into_iter_items l.ops) l.first

abbrev pub decreases-loop-op : goal.decreases-loop-op
decreases-loop-op l = into_iter_len l.ops
