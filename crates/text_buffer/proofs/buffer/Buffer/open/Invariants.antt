use Rattle.std.proofs.Common.{◌≡◌, ◌++◌, None}
use Rattle.std.specs.Vec.Iter.{into_iter_items, into_iter_len}
use Rattle.op_model.specs.Opened.{open_fault}
use Rattle.text_buffer.specs.Opening.{opened_with, rules_of}
use Rattle.text_buffer.proofs.buffer.Buffer.open.Given as goal

abbrev pub invariant-loop-op : goal.invariant-loop-op
invariant-loop-op l = record {
  split : l.buffer.history ++ into_iter_items l.ops ≡ l.fn.ops.items;
  buffer : l.buffer ≡ opened_with l.fn.replica l.buffer.history l.fn.limits l.fn.endings;
  opens : open_fault (rules_of l.fn.limits l.fn.endings) l.buffer.history ≡ None;
}

abbrev pub decreases-loop-op : goal.decreases-loop-op
decreases-loop-op l = into_iter_len l.ops
