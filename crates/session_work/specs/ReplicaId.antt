-- What the fields of a replica stand for.
use Rattle.std.specs.Prelude.{◌≡◌}
use Rattle.session_work.specs.declared.replica.Replica.TheInside.{Inside}

-- the replica goes by its buffer's id
abbrev pub GoesByBuffersId : Inside → Type 0
GoesByBuffersId r = r.buffer.replica ≡ r.id
