-- What the fields of the ends of a queue, and of what a worker gives back, stand for.
use Rattle.std.specs.Prelude.{◌≡◌, true, []}
use Rattle.std.specs.Option.{option_map}
use Rattle.std.specs.Result.{result_ok}
use Rattle.std.specs.Arc.{arc_value}
use Rattle.crossbeam_queue.specs.Passes.{view, IsPassOf, ruled_capacity}
use Rattle.queries.specs.Queue.{pairs_of}
use Rattle.queries.specs.States.{InboxState, DeskState, DoneState}
use Rattle.queries.specs.declared.desk.Inbox.TheInside.{Inside as InboxInside}
use Rattle.queries.specs.declared.desk.Desk.TheInside.{Inside as DeskInside}
use Rattle.queries.specs.declared.desk.Done.TheInside.{Inside as DoneInside}

module _ {Q : Type 0} where
  abbrev pub inbox_state : InboxInside Q → InboxState Q
  inbox_state i = record {
    queue = i.pass.table_id;
    room = ruled_capacity (arc_value i.queue);
    sent = (view i.pass).sent;
    readers = (view i.pass).readers;
  }

  -- its pass is the one that sends
  pub record IsSending (i : InboxInside Q) : Type 0 where
    pub own : IsPassOf (arc_value i.queue) i.pass
    pub sends : (view i.pass).sends ≡ true

  abbrev pub desk_state : DeskInside Q → DeskState
  desk_state d = record { queue = d.pass.table_id; readers = d.readers.items }

  -- its pass is the one that takes, and has taken nothing yet; the readers are those that the queue's rule names
  pub record IsTaking (d : DeskInside Q) : Type 0 where
    pub own : IsPassOf (arc_value d.queue) d.pass
    pub takes : (view d.pass).takes ≡ true
    pub none : (view d.pass).taken ≡ []
    pub tied : pairs_of d.readers.items ≡ pairs_of (view d.pass).readers

module _ {Q A : Type 0} where
  abbrev pub done_state : DoneInside Q A → DoneState Q A
  done_state d = record {
    queue = d.pass.table_id;
    taken = (view d.pass).taken;
    readers = d.readers.items;
    answers = option_map (λ v. v.items) (result_ok d.answers);
  }

  -- its pass is the one that takes, and no slot of the queue is out with it
  pub record HasTaken (d : DoneInside Q A) : Type 0 where
    pub whole : d.pass.me.1 ≡ []
    pub takes : (view d.pass).takes ≡ true
