use Rattle.std.proofs.Common.{◌+◌, arith}
use Rattle.fragments.proofs.Beside.{part_short, count_next}
use Rattle.fragments.proofs.index.count.Goals as goal

pub overflow_add-count : goal.overflow_add-count
overflow_add-count c =
    let next = count_next c.args.recent.now c.args.entries.now.items c.loop-i.i c.index-recent-i.result c.index-recent-i.is c.loop-i-test.true in
    let short = part_short (c.loop-i.i + 1) c.args.recent.now c.args.entries.now.items c.requires.ascending in
    omega (arith, next, short, c.requires.short, c.loop-i.invariant, c.added_by-count.ensures)

pub loop-i-preserved : goal.loop-i-preserved
loop-i-preserved c =
    let next = count_next c.args.recent.now c.args.entries.now.items c.loop-i.i c.index-recent-i.result c.index-recent-i.is c.loop-i-test.true in
    omega (arith, next, c.loop-i.invariant, c.added_by-count.ensures)
