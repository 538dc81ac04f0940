-- What is asked of a worker, and of all workers together.
use Rattle.std.specs.Prelude.{◌≡◌, ℕ, ◌-◌, ◌%◌, ◌==◌, List, [], ◌∷◌, ◌++◌, map}
use Rattle.std.specs.List.{filter}
use Rattle.op_model.specs.declared.operation.Operation.{Operation}
use Rattle.queries.specs.Queue.{jobs_of}
use Rattle.queries.specs.States.{InboxState}
use Rattle.queries.specs.declared.job.Job.{Job}
use Rattle.queries.specs.declared.job.Entry.{Entry}
use Rattle.queries.specs.declared.job.Entry.TheVariants as entry

-- a query with its number, the index of its replica, and what that had applied when it was asked
pub record Ask (Q : Type 0) : Type 0 where
  pub number : ℕ
  pub index : ℕ
  pub query : Q
  pub history : List Operation

-- the worker that a query goes to, by the number of workers
abbrev pub worker_of : ℕ → ℕ → ℕ
worker_of workers number = (number - 1) % workers

module _ {Q : Type 0} where
  -- what a job asks
  abbrev pub ask_of : Job Q → Ask Q
  ask_of j = record { number = j.number; index = j.index; query = j.query; history = j.told.list }

  -- what is asked by the jobs among the entries of a queue
  abbrev pub asks_of : List (Entry Q) → List (Ask Q)
  asks_of es = map ask_of (jobs_of es)

  -- those that go to a worker, by the number of workers
  abbrev pub asks_to : ℕ → ℕ → List (Ask Q) → List (Ask Q)
  asks_to workers w asks = filter (λ (a : Ask Q). worker_of workers a.number == w) asks

  -- the inbox with one entry more
  abbrev pub put_into : InboxState Q → Entry Q → InboxState Q
  put_into i e = record { queue = i.queue; room = i.room; sent = i.sent ++ e ∷ []; readers = i.readers }

  -- one job more was put, which asks this
  abbrev pub HasPut : InboxState Q → InboxState Q → Ask Q → Type 0
  HasPut old new ask = (job : Job Q) × (ask_of job ≡ ask) × (new ≡ put_into old (entry.Job job))
