use Rattle.std.proofs.Common.{◌≡◌, ◌+◌, ◌/◌, List, [], ◌∷◌, ◌++◌, Vec, Global, length, map, sym, ap, ◌∙◌, subst, arith, append_assoc, length-append}
use Rattle.std.specs.List.{All}
use Rattle.std.specs.Vec.Iter.{into_iter_items}
use Rattle.std.proofs.lemmas.List.{map-append}
use Rattle.std.proofs.lemmas.List.Elements.{All-append, All-cons, All-nil}
use Rattle.logbook.specs.Pages.{Named}
use Rattle.snapshot_pub.specs.States.{ReaderState}
use Rattle.queries.specs.Queue.{pairs_of}
use Rattle.queries.specs.States.{DeskState, InboxState}
use Rattle.queries.specs.Dealt.{AreEnds, pairs_in}
use Rattle.queries.proofs.Dealing.{IsFresh, ends_more}
use Rattle.queries.proofs.opening.open_queues.Goals as goal

pub loop-worker-preserved : goal.loop-worker-preserved
loop-worker-preserved g c =
    let was = c.loop-worker.invariant in
    let inboxes = c.loop-worker.inboxes.items in
    let desks = c.loop-worker.desks.items in
    let inbox : InboxState g.row.Q.Denot = c.in_ok-inbox.inbox in
    let desk : DeskState = c.in_ok-inbox.desk in
    let readers = c.in-Some.readers.items in
    let room = c.args.limit / c.args.workers + 2 in
    let opened = c.in_ok-inbox.ensures.inbox in
    let more : c.push.new.self.items ≡ inboxes ++ inbox ∷ [] = c.in_ok-push.ensures.items in
    let many_desks : c.push-in-loop-worker.new.self.items ≡ desks ++ desk ∷ [] = c.in_ok-push-2.ensures.items in
    let rest : List (List Named) = map (λ (v : Vec ReaderState Global). pairs_of v.items) (into_iter_items c.next.new.self) in
    let own : pairs_of inbox.readers ≡ pairs_of readers = ap (λ (i : InboxState g.row.Q.Denot). pairs_of i.readers) opened in
    let same : pairs_of inbox.readers ≡ pairs_of desk.readers = own ∙ ap (λ (l : List ReaderState). pairs_of l) (sym c.in_ok-inbox.ensures.desk) in
    let pairs : pairs_in c.push.new.self.items ≡ pairs_in inboxes ++ pairs_of readers ∷ [] =
    ap (λ (l : List (InboxState g.row.Q.Denot)). pairs_in l) more ∙ (map-append (λ (i : InboxState g.row.Q.Denot). pairs_of i.readers) inboxes (inbox ∷ []) ∙ ap (λ (b : List Named). pairs_in inboxes ++ b ∷ []) own) in record {
      left = omega (arith, was.left, c.in-Some.ensures.len);
      pairs = ap (λ (l : List (List Named)). l ++ rest) pairs ∙ (append_assoc (pairs_in inboxes) (pairs_of readers ∷ []) rest
          ∙ (ap (λ (l : List (Vec ReaderState Global)). pairs_in inboxes ++ map (λ (v : Vec ReaderState Global). pairs_of v.items) l) (sym c.in-Some.ensures.items) ∙ was.pairs));
      many = omega (arith, was.many, ap (λ (l : List (InboxState g.row.Q.Denot)). length l) more, length-append inboxes (inbox ∷ []));
      ends = subst (λ (l : List (InboxState g.row.Q.Denot)). AreEnds l c.push-in-loop-worker.new.self.items) (sym more)
          (subst (λ (l : List DeskState). AreEnds (inboxes ++ inbox ∷ []) l) (sym many_desks) (ends_more inboxes desks inbox desk was.ends (ap (λ (i : InboxState g.row.Q.Denot). i.queue) opened) same));
      fresh = subst (All (IsFresh room)) (sym more) (All-append (IsFresh room) inboxes (inbox ∷ []) was.fresh
          (All-cons (IsFresh room) inbox [] (ap (λ (i : InboxState g.row.Q.Denot). i.sent) opened, ap (λ (i : InboxState g.row.Q.Denot). i.room) opened) (All-nil (IsFresh room))));
    }
