use Rattle.tree_cursor.proofs.Lasts.{greatest_is_last}
use Rattle.lamport_clock.specs.Stamps.{stamp_cmp}
use Rattle.applied_ops.specs.Placed.{stamp_at}
use Rattle.applied_ops.proofs.stamp_entry.StampEntryKeyedItem.last_key.Goals as goal

pub returns : goal.returns
returns c = λ xs a e. greatest_is_last stamp_cmp stamp_at xs c.args.sum.now a e
