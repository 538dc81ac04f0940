-- What is published of each replica, and in which pairs.
use Rattle.std.specs.Prelude.{◌≡◌, ℕ, ◌≤◌, false, List, [], length, map, replicate, slice_index_or, All}
use Rattle.std.specs.List.{range_with_len}
use Rattle.logbook.specs.Pages.{Named}
use Rattle.op_model.specs.declared.operation.Operation.{Operation}
use Rattle.snapshot_pub.specs.States.{PublisherState}
use Rattle.queries.specs.Queue.{pairs_of}
use Rattle.queries.specs.States.{InboxState, PublishersState}

-- what was last published to its first pair
abbrev pub published_of : PublisherState → List Operation
published_of p = slice_index_or p.published 0 []

-- what was last published of each replica
abbrev pub published_lists : PublishersState → List (List Operation)
published_lists s = map published_of s.list

-- every pair of the publisher has what was last published to its first, and there is one for each worker
abbrev pub PublishesToAll : ℕ → PublisherState → Type 0
PublishesToAll workers p = (p.published ≡ replicate workers (published_of p)) × (length p.pairs ≡ workers)

-- every pair of a replica has the same list, of the size that is noted
pub record AreLevel (s : PublishersState) : Type 0 where
  pub some : 1 ≤ s.workers
  pub each : All (PublishesToAll s.workers) s.list
  pub sizes : s.sizes ≡ map (λ (p : PublisherState). length (published_of p)) s.list

-- the pairs of all replicas
abbrev pub rows_of : PublishersState → List (List Named)
rows_of s = map (λ (p : PublisherState). p.pairs) s.list

-- any pair, for places that are not there
abbrev pub no_pair : Named
no_pair = record { tracked = false; key = 0; book = record { number = 0; log_name = 0; cells_name = 0 } }

-- the pairs of one worker, of all replicas
abbrev pub column : ℕ → List (List Named) → List Named
column w rows = map (λ (row : List Named). slice_index_or row w no_pair) rows

-- the pairs of each worker, of all replicas
abbrev pub columns : ℕ → List (List Named) → List (List Named)
columns workers rows = map (λ w. column w rows) (range_with_len 0 workers)

-- each inbox is of the worker at its place
abbrev pub AreTied : {Q : Type 0} → List (InboxState Q) → PublishersState → Type 0
AreTied inboxes s = map (λ i. pairs_of i.readers) inboxes ≡ columns s.workers (rows_of s)
