use Rattle.std.proofs.Common.{◌≡◌, ◌+◌, ◌<◌, length, get_or, set, sym, ap, ◌∙◌, subst, arith}
use Rattle.std.proofs.lemmas.List.{get_or_default, length-set, with_items_is}
use Rattle.snapshot_pub.proofs.Places.{put_same}
use Rattle.queries.specs.Queue.{pairs_of}
use Rattle.queries.specs.States.{InboxState, DispatcherState}
use Rattle.queries.specs.Dealt.{AllAt, IsClosed}
use Rattle.queries.proofs.Dealing.{IsEnding, dealt_room, ending_ends, ending_more}
use Rattle.queries.proofs.dispatcher.Dispatcher.end.Goals as goal

pub end-requires : goal.end-requires
end-requires g c =
    let within : c.loop-inbox.inbox-index < length c.loop-inbox.inbox-items = omega arith in
    dealt_room c.args.self c.requires.0 c.loop-inbox.inbox-index _ c.requires.1 (omega (arith, within, c.loop-inbox.invariant.count))
    ((c.loop-inbox.invariant.each c.requires.0 c.requires.1 c.loop-inbox.inbox-index c.inbox-item.result within).1 (omega arith))

pub loop-inbox-preserved : goal.loop-inbox-preserved
loop-inbox-preserved g c =
    let was = c.loop-inbox.invariant in
    let items = c.loop-inbox.inbox-items in
    let k = c.loop-inbox.inbox-index in
    let old : InboxState g.row.Q.Denot = get_or items k c.inbox-item.result in
    let within : k < length items = omega arith in
    let at : old ≡ get_or items k old = get_or_default items k c.inbox-item.result old within in record {
      count = length-set items k c.end.new.self ∙ was.count;
      queues = put_same (λ (i : InboxState g.row.Q.Denot). i.queue) items k old c.end.new.self at (ap (λ (i : InboxState g.row.Q.Denot). i.queue) c.end.ensures) ∙ was.queues;
      pairs = put_same (λ (i : InboxState g.row.Q.Denot). pairs_of i.readers) items k old c.end.new.self at (ap (λ (i : InboxState g.row.Q.Denot). pairs_of i.readers) c.end.ensures) ∙ was.pairs;
      each = λ asks h.
          subst (λ (i : InboxState g.row.Q.Denot). AllAt (IsEnding (length c.args.self.inboxes) c.args.self.limit (k + 1) asks) (set items k i)) (sym c.end.ensures)
          (ending_more (length c.args.self.inboxes) c.args.self.limit k asks items old within (was.each asks h) at);
    }

pub returns-clause-ended : goal.returns-clause-ended
returns-clause-ended g c = λ asks h.
    let items = c.loop-inbox.inbox-items in
    let many : length items ≡ c.self.inside.inboxes.len =
    c.loop-inbox.invariant.count ∙ (sym (ap (λ (d : DispatcherState g.row.Q.Denot). length d.inboxes) c.self.view_is) ∙ sym c.self.inside.inboxes.ok.0) in
    subst (AllAt (IsClosed (length c.args.self.inboxes) asks)) (sym (with_items_is c.self.inside.inboxes items many))
    (ending_ends (length c.args.self.inboxes) c.args.self.limit c.loop-inbox.inbox-index asks items (omega arith) (c.loop-inbox.invariant.each asks h))
