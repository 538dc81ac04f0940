use Rattle.std.proofs.Common.{rules, ◌+◌, subst, sym}
use Rattle.snapshot_search.specs.Shifts.{IsFallback}
use Rattle.snapshot_search.proofs.Sliding.{next_fallback, one_more}
use Rattle.snapshot_search.proofs.needle.fallbacks_of.Goals as goal

pub loop-i-preserved : goal.loop-i-preserved
loop-i-preserved c =
    let was = c.loop-i.invariant in
    let needle = c.args.needle.now in
    let next = next_fallback needle c.loop-i.i c.loop-i.matched c.next_match-matched.result c.next_match-matched.ensures.most was.last c.next_match-matched.ensures.moves in
    record {
      len = search rules;
      each = one_more needle c.loop-i.table.items _ c.next_match-matched.result was.each c.in_ok-push-2.ensures.items
          (subst (λ n. IsFallback needle (n + 1) c.next_match-matched.result) (sym was.len) next);
      last = next;
    }
