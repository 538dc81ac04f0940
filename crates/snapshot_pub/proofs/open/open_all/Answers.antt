use Rattle.std.proofs.Common.{arith}
use Rattle.snapshot_pub.proofs.Opening.{open_more}
use Rattle.snapshot_pub.proofs.open.open_all.Goals as goal

pub loop-i-preserved : goal.loop-i-preserved
loop-i-preserved g c =
    let was = c.loop-i.invariant in record {
      sides = omega (arith, c.push_reserved.ensures.len);
      readers = omega (arith, c.push_reserved-in-loop-i.ensures.len);
      room = rw c.push_reserved.ensures.capacity was.room;
      space = rw c.push_reserved-in-loop-i.ensures.capacity was.space;
      open_ = rw (c.push_reserved.ensures.items, c.push_reserved-in-loop-i.ensures.items) (open_more _ _ _ _ _ _ was.open_ c.in_ok-side.ensures.shown c.in_ok-side.ensures.learned c.in_ok-side.ensures.own);
    }
