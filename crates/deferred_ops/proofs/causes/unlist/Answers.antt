use Rattle.std.proofs.Common.{refl}
use Rattle.deferred_ops.proofs.OfWaiting.{gone_further, fewer_further, others_further}
use Rattle.deferred_ops.proofs.causes.unlist.Goals as goal

pub loop-replica-preserved : goal.loop-replica-preserved
loop-replica-preserved c =
    let before = c.loop-replica.invariant in
    let seen = c.as_slice-seen.result.now in
    let t = c.stamp-stamp.result in
    let changes = c.remove.ensures.updates.0 in
    record {
      gone = gone_further c.loop-replica.causes c.remove.new.self seen t _ changes c.loop-replica.replica-index _ c.loop-replica-test.true refl before.gone;
      fewer = λ q has. before.fewer q (fewer_further c.loop-replica.causes c.remove.new.self seen t _ changes q has);
      others = λ q apart has. others_further c.loop-replica.causes c.remove.new.self seen t _ changes q apart (before.others q apart has);
    }
