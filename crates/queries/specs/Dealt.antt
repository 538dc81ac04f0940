-- What a dispatcher has put into which inbox.
use Rattle.std.specs.Prelude.{◌≡◌, ℕ, ◌+◌, ◌/◌, ◌<◌, ◌≤◌, List, length, map, slice_index_or}
use Rattle.std.specs.List.{range_with_len}
use Rattle.atomic_table.specs.Seated.{TableId}
use Rattle.op_model.specs.declared.operation.Operation.{Operation}
use Rattle.logbook.specs.Pages.{Named}
use Rattle.snapshot_pub.specs.States.{ToldState}
use Rattle.queries.specs.Queue.{pairs_of, IsOpen, IsEnded}
use Rattle.queries.specs.States.{InboxState, DeskState, DispatcherState}
use Rattle.queries.specs.Asks.{Ask, asks_of, asks_to}

-- it holds of each place and what stands there
abbrev pub AllAt : {X : Type 0} → (ℕ → X → Type 0) → List X → Type 0
AllAt {X} P xs = (i : ℕ) (d : X) → i < length xs → P i (slice_index_or xs i d)

module _ {Q : Type 0} where
  -- the numbers count from 1
  abbrev pub AreNumbered : List (Ask Q) → Type 0
  AreNumbered asks = map (λ (a : Ask Q). a.number) asks ≡ range_with_len 1 (length asks)

  -- the inbox of worker w has those that go to it, and room for its part of the limit, and for the end mark
  pub record IsDealt (workers limit : ℕ) (asks : List (Ask Q)) (w : ℕ) (i : InboxState Q) : Type 0 where
    pub open_ : IsOpen i.sent
    pub has : asks_of i.sent ≡ asks_to workers w asks
    pub room : i.room ≡ limit / workers + 2

  -- these were asked, each of the worker whose turn it was
  pub record HasAsked (d : DispatcherState Q) (asks : List (Ask Q)) : Type 0 where
    pub some : 1 ≤ length d.inboxes
    pub count : d.count ≡ length asks
    pub most : d.count ≤ d.limit
    pub numbers : AreNumbered asks
    pub each : AllAt (IsDealt (length d.inboxes) d.limit asks) d.inboxes

  -- the same, and its end mark is behind them
  pub record IsClosed (workers : ℕ) (asks : List (Ask Q)) (w : ℕ) (i : InboxState Q) : Type 0 where
    pub ended : IsEnded i.sent
    pub has : asks_of i.sent ≡ asks_to workers w asks

  -- which queues they are of
  abbrev pub queues_of : List (InboxState Q) → List TableId
  queues_of is = map (λ (i : InboxState Q). i.queue) is

  -- the pairs of their readers
  abbrev pub pairs_in : List (InboxState Q) → List (List Named)
  pairs_in is = map (λ (i : InboxState Q). pairs_of i.readers) is

  -- the desks are the other ends of the inboxes, in their order
  pub record AreEnds (inboxes : List (InboxState Q)) (desks : List DeskState) : Type 0 where
    pub queues : queues_of inboxes ≡ map (λ (d : DeskState). d.queue) desks
    pub pairs : pairs_in inboxes ≡ map (λ (d : DeskState). pairs_of d.readers) desks

-- the lists that were told
abbrev pub told_lists : List ToldState → List (List Operation)
told_lists ts = map (λ (t : ToldState). t.list) ts

-- the pairs of which they were told
abbrev pub told_pairs : List ToldState → List Named
told_pairs ts = map (λ (t : ToldState). t.pair) ts
