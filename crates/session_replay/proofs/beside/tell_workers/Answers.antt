use Rattle.std.proofs.Common.{List, ◌≡◌, [], ◌∷◌, ◌++◌, map, ap, sym, subst, ◌∙◌}
use Rattle.std.specs.List.{All}
use Rattle.std.proofs.lemmas.List.{map-append}
use Rattle.std.proofs.lemmas.List.Elements.{All-append, All-cons, All-nil}
use Rattle.snapshot_pub.specs.States.{ToldState}
use Rattle.queries.specs.Dealt.{told_lists, told_pairs}
use Rattle.queries.specs.Published.{published_lists, rows_of}
use Rattle.queries.proofs.Places.{pairs_more}
use Rattle.session_replay.proofs.beside.tell_workers.Goals as goal

pub loop-worker-preserved : goal.loop-worker-preserved
loop-worker-preserved c =
    let p = c.args.publishers.now in
    let ts = map (λ t. t.items) c.loop-worker.tolds.items in
    let told = c.in_ok-tell_all.ensures in
    let t = c.in_ok-tell_all.field-0.items in
    let more : map (λ t. t.items) c.push.new.self.items ≡ ts ++ t ∷ [] =
    ap (map (λ t. t.items)) c.in_ok-push.ensures.items ∙ map-append (λ t. t.items) c.loop-worker.tolds.items (c.in_ok-tell_all.field-0 ∷ []) in
    let was = c.loop-worker.invariant in record {
      pairs = ap (map told_pairs) more ∙ (map-append told_pairs ts (t ∷ []) ∙ pairs_more (map told_pairs ts) c.loop-worker.worker (rows_of p) (told_pairs t) was.pairs told.pairs);
      lists = subst (All (λ (us : List ToldState). told_lists us ≡ published_lists p)) (sym more)
          (All-append (λ (us : List ToldState). told_lists us ≡ published_lists p) ts (t ∷ []) was.lists (All-cons (λ (us : List ToldState). told_lists us ≡ published_lists p) t [] told.lists (All-nil (λ (us : List ToldState). told_lists us ≡ published_lists p))));
    }
