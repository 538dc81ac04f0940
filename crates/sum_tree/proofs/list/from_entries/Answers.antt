use Rattle.std.proofs.Common.{length, ap, arith}
use Rattle.sum_tree.proofs.Children.{inner_is_low}
use Rattle.sum_tree.proofs.list.from_entries.Goals as goal

pub overflow_add-height : goal.overflow_add-height
overflow_add-height g c =
    omega (arith, inner_is_low c.loop-alloc.height c.loop-alloc.nodes.items c.loop-alloc.invariant.1 c.loop-alloc.invariant.2 (omega (arith, ap length c.loop-alloc.invariant.0, c.requires.short)))
