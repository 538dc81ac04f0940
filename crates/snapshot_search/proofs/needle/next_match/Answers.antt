use Rattle.std.proofs.Common.{arith}
use Rattle.snapshot_search.proofs.Sliding.{slides_on, fallback_at}
use Rattle.snapshot_search.proofs.needle.next_match.Goals as goal

-- the fallback of what is kept, where the byte is another
pub loop-kept-preserved : goal.loop-kept-preserved
loop-kept-preserved c =
    let was = c.loop-kept.invariant in
    let fewer = was.fewer in
    let table = c.requires.table in
    let some = c.if-kept-eq0.false in
    let fallback = fallback_at c.args.needle.now c.args.fallbacks.now c.loop-kept.kept c.requires.fallbacks (omega arith) (omega arith) in
    let less = fallback.fewer in
    record {
      fewer = omega arith;
      slides = slides_on c.args.needle.now c.args.matched c.args.byte c.loop-kept.kept _ fewer was.slides c.loop-kept-test.true fallback;
    }
