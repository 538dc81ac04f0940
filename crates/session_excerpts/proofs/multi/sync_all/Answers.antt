use Rattle.std.proofs.Common.{◌≡◌, ◌+◌, ◌∷◌, suc, List, drop, sym, ◌∙◌, arith, subst}
use Rattle.std.specs.Vec.Iter.{into_iter_items}
use Rattle.op_model.specs.Histories.{History}
use Rattle.session_excerpts.specs.State.{GoOnFrom}
use Rattle.session_excerpts.proofs.Syncing.{multi_then, rest_then, within_then}
use Rattle.session_excerpts.proofs.multi.sync_all.Goals as goal

pub loop-snapshot-preserved : goal.loop-snapshot-preserved
loop-snapshot-preserved c =
    let hs : List History = c.args.snapshots.items in
    let k = c.loop-snapshot.replica in
    let h : History = c.in-Some.snapshot in
    let rest : List History = into_iter_items c.next.new.self in
    let was = c.loop-snapshot.multi in
    let n = c.sync.new.self in
    let next : suc k ≡ k + 1 = omega arith in
    let at : h ∷ rest ≡ drop k hs = sym c.in-Some.ensures.items ∙ c.loop-snapshot.invariant.rest in
    let new = c.in_ok-sync.ensures.ok in record {
      count = omega (arith, c.loop-snapshot.invariant.count, c.in-Some.ensures.len);
      rest = rest_then k (k + 1) hs rest h c.args.multi.now was n next at new;
      multi = multi_then k (k + 1) hs rest h c.args.multi.now was n next at new c.loop-snapshot.invariant.multi;
      within = within_then k (k + 1) hs rest h c.args.multi.now was n next at new (subst (λ (l : List History). GoOnFrom k l was.synced) c.in-Some.ensures.items c.loop-snapshot.invariant.within);
    }
