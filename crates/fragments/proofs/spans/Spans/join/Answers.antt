use Rattle.fragments.proofs.Widening.{next_widened}
use Rattle.fragments.proofs.spans.Spans.join.Goals as goal

pub loop-span-preserved : goal.loop-span-preserved
loop-span-preserved c =
    let k = next_widened _ _ _ _ _ _ c.loop-span-test.true c.loop-span.invariant.joined c.loop-span.invariant.here c.widen_here.ensures in
    record { joined = k.0; here = k.1 }
