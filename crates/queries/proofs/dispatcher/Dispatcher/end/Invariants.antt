use Rattle.std.proofs.Common.{◌≡◌, List, length}
use Rattle.queries.specs.Asks.{Ask}
use Rattle.queries.specs.Dealt.{AllAt, HasAsked, pairs_in, queues_of}
use Rattle.queries.proofs.Dealing.{IsEnding}
use Rattle.queries.proofs.dispatcher.Dispatcher.end.Given as goal

abbrev pub invariant-loop-inbox : goal.invariant-loop-inbox
invariant-loop-inbox g l = record {
  count : length l.inbox-items ≡ length l.fn.self.inboxes;
  queues : queues_of l.inbox-items ≡ queues_of l.fn.self.inboxes;
  pairs : pairs_in l.inbox-items ≡ pairs_in l.fn.self.inboxes;
  each : (asks : List (Ask g.row.Q.Denot)) → HasAsked l.fn.self asks → AllAt (IsEnding (length l.fn.self.inboxes) l.fn.self.limit l.inbox-index asks) l.inbox-items;
}
