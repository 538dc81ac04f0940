use Rattle.std.proofs.Common.{ap, ◌∙◌}
use Rattle.snapshot_pub.proofs.Places.{put_same}
use Rattle.queries.specs.Queue.{pairs_of}
use Rattle.queries.specs.States.{InboxState, DispatcherState}
use Rattle.queries.specs.Dealt.{pairs_in, queues_of}
use Rattle.queries.proofs.Dealing.{is_next, put_more}
use Rattle.queries.proofs.dispatcher.Dispatcher.put.Goals as goal

pub ask-requires-clause-worker : goal.ask-requires-clause-worker
ask-requires-clause-worker g c =
    (is_next _ _ _ _ c.requires.asked.0 c.args.index c.self.inside.workers c.index_mut.result.now c.index-publisher.result.now c.self.view_is c.publishers.view_is c.self.invariant c.requires.asked.1 c.requires.tied c.requires.level c.requires.index
    c.index_mut.ensures.value c.index-publisher.ensures).worker

pub ask-requires-clause-pair : goal.ask-requires-clause-pair
ask-requires-clause-pair g c =
    (is_next _ _ _ _ c.requires.asked.0 c.args.index c.self.inside.workers c.index_mut.result.now c.index-publisher.result.now c.self.view_is c.publishers.view_is c.self.invariant c.requires.asked.1 c.requires.tied c.requires.level c.requires.index
    c.index_mut.ensures.value c.index-publisher.ensures).pair

pub ask-requires-clause-room : goal.ask-requires-clause-room
ask-requires-clause-room g c =
    (is_next _ _ _ _ c.requires.asked.0 c.args.index c.self.inside.workers c.index_mut.result.now c.index-publisher.result.now c.self.view_is c.publishers.view_is c.self.invariant c.requires.asked.1 c.requires.tied c.requires.level c.requires.index
    c.index_mut.ensures.value c.index-publisher.ensures).room

pub returns-clause-queues : goal.returns-clause-queues
returns-clause-queues g c =
    put_same (λ (i : InboxState g.row.Q.Denot). i.queue) c.self.inside.inboxes.items _ c.index_mut.result.now c.ask.new.self c.index_mut.ensures.value (ap (λ (i : InboxState g.row.Q.Denot). i.queue) c.in_ok-ask.ensures.2)
    ∙ ap (λ (d : DispatcherState g.row.Q.Denot). queues_of d.inboxes) c.self.view_is

pub returns-clause-pairs : goal.returns-clause-pairs
returns-clause-pairs g c =
    put_same (λ (i : InboxState g.row.Q.Denot). pairs_of i.readers) c.self.inside.inboxes.items _ c.index_mut.result.now c.ask.new.self c.index_mut.ensures.value (ap (λ (i : InboxState g.row.Q.Denot). pairs_of i.readers) c.in_ok-ask.ensures.2)
    ∙ ap (λ (d : DispatcherState g.row.Q.Denot). pairs_in d.inboxes) c.self.view_is

pub returns-clause-asked : goal.returns-clause-asked
returns-clause-asked g c = λ asks h.
    let next = is_next _ _ _ _ asks c.args.index c.self.inside.workers c.index_mut.result.now c.index-publisher.result.now c.self.view_is c.publishers.view_is c.self.invariant h c.requires.tied c.requires.level c.requires.index c.index_mut.ensures.value
    c.index-publisher.ensures in
    put_more _ _ asks _ c.args.index _ c.index_mut.result.now c.ask.new.self c.index-publisher.result.now c.args.query c.self.view_is next c.requires.more c.in_ok-ask.ensures
