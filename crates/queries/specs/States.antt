-- What contracts see of the two ends of a worker's queue, of what a worker gives back, and of the editor's side.
use Rattle.std.specs.Prelude.{ℕ, List, Option}
use Rattle.atomic_table.specs.Seated.{TableId}
use Rattle.snapshot_pub.specs.States.{PublisherState, ReaderState}
use Rattle.queries.specs.declared.job.Entry.{Entry}
use Rattle.queries.specs.declared.query.Answer.{Answer}

-- its queue, and for how many entries that has room; what was sent; the worker's readers
pub record InboxState (Q : Type 0) : Type 0 where
  pub queue : TableId
  pub room : ℕ
  pub sent : List (Entry Q)
  pub readers : List ReaderState

-- its queue, and its readers
pub record DeskState : Type 0 where
  pub queue : TableId
  pub readers : List ReaderState

-- its queue; what was taken; its readers; its answers, unless an allocation failed
pub record DoneState (Q A : Type 0) : Type 0 where
  pub queue : TableId
  pub taken : List (Entry Q)
  pub readers : List ReaderState
  pub answers : Option (List (Answer Q A))

-- how many workers there are; the publishers of all replicas; how many operations were last published of each
pub record PublishersState : Type 0 where
  pub workers : ℕ
  pub list : List PublisherState
  pub sizes : List ℕ

-- the inboxes of the workers; how many queries were put; how many there may be
pub record DispatcherState (Q : Type 0) : Type 0 where
  pub inboxes : List (InboxState Q)
  pub count : ℕ
  pub limit : ℕ
