-- What the fields of a replica's sets stand for.
use Rattle.std.specs.Prelude.{◌≡◌}
use Rattle.session_selections.specs.declared.replica.ReplicaSets.TheInside.{Inside}

-- they go by the id of their replica
abbrev pub GoesByReplica : Inside → Type 0
GoesByReplica r = r.sets.replica ≡ r.id
