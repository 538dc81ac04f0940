-- Which pair an editor tells a worker of.
use Rattle.std.specs.Prelude.{◌≡◌, ℕ, ◌<◌, length, slice_index_or}
use Rattle.logbook.specs.Pages.{Named}
use Rattle.snapshot_pub.specs.States.{PublisherState}
use Rattle.queries.specs.Queue.{pairs_of}
use Rattle.queries.specs.States.{InboxState}

-- the inbox's worker has a reader of that replica, whose pair is that of the worker at its publisher
abbrev pub IsOfPair : {Q : Type 0} → InboxState Q → ℕ → ℕ → PublisherState → Type 0
IsOfPair inbox index worker publisher =
    (index < length inbox.readers)
    × ((d : Named) → slice_index_or publisher.pairs worker d ≡ slice_index_or (pairs_of inbox.readers) index d)
