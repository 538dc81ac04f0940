use Rattle.std.proofs.Common.{◌≡◌, ◌<◌, [], ◌∷◌, List, Vec, Global, get_or, length, sym, ap, ◌∙◌, arith}
use Rattle.std.proofs.lemmas.List.{get_or-map, length-set, map-append}
use Rattle.std.specs.Vec.Iter.{into_iter_items}
use Rattle.snapshot_pub.specs.States.{ReaderState}
use Rattle.queries.specs.Queue.{pairs_of}
use Rattle.queries.specs.Published.{no_pair}
use Rattle.queries.proofs.Readers.{served_more}
use Rattle.queries.proofs.opening.deal.Goals as goal
use Rattle.op_model.proofs.Elements.{drop_at}

pub loop-worker-preserved : goal.loop-worker-preserved
loop-worker-preserved c =
    let was = c.loop-worker.invariant in
    let readers_by_worker = c.loop-worker.readers_by_worker.items in
    let k = c.loop-worker.worker in
    let reader = c.in-Some.reader in
    let next = into_iter_items c.next.new.self in
    let within : k < length readers_by_worker = omega (arith, c.loop-worker-test.true, c.len-worker-end.ensures, was.count, c.args.readers_by_worker.now.ok.0) in
    let at = drop_at c.args.readers.items k reader next reader (sym was.rest ∙ c.in-Some.ensures.items) in
    let more = ap (λ (l : List ReaderState). pairs_of l) c.in_ok-push-in-Some.ensures.items ∙ map-append (λ (r : ReaderState). r.pair) c.index_mut.result.now.items (reader ∷ []) in
    let own : get_or (pairs_of c.args.readers.items) k no_pair ≡ reader.pair = get_or-map (λ (r : ReaderState). r.pair) c.args.readers.items k reader no_pair at.0 ∙ ap (λ (r : ReaderState). r.pair) at.1 in record {
      count = length-set readers_by_worker k c.push.new.self ∙ was.count;
      left = omega (arith, was.left, c.in-Some.ensures.len);
      rest = sym at.2;
      each = λ rows h.
          served_more (λ (v : Vec ReaderState Global). pairs_of v.items) rows (pairs_of c.args.readers.items) readers_by_worker k c.index_mut.result.now c.push.new.self reader.pair within (was.each rows h) c.index_mut.ensures.value more own;
    }
