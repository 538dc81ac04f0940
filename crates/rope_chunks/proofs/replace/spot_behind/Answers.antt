use Rattle.std.proofs.Common.{◌+◌, ap, arith, length}
use Rattle.rope_chunks.proofs.Changes.{in_order}
use Rattle.rope_chunks.proofs.replace.spot_behind.Goals as goal

pub overflow_add-start : goal.overflow_add-start
overflow_add-start c = omega (arith, c.requires.within, c.requires.chunks.few)

pub returns-else-bytes-as_str-clause-order : goal.returns-else-bytes-as_str-clause-order
returns-else-bytes-as_str-clause-order c =
    let f = c.args.first.now in
    let s = c.spot_of.result in
    in_order c.args.tree.now.items c.args.start (c.args.start + c.args.bytes) f.index s.index f.place s.place f.chunk.now s.chunk.now c.requires.first c.spot_of.ensures (omega (arith, c.if-bytes-as_str.false, ap length c.as_str.ensures.value))
