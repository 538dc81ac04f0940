-- What the fields of a session's replicas stand for.
use Rattle.std.specs.Prelude.{◌≡◌, ℕ, ◌<◌, ◌==◌, length, get_or, None}
use Rattle.std.specs.List.{position}
use Rattle.text_buffer.specs.Buffer.{BufferState}
use Rattle.session_work.specs.declared.replicas.Replicas.TheInside.{Inside}

-- the table has the index of the first replica with each of its ids
abbrev pub AreFound : Inside → Type 0
AreFound r = (k : ℕ) → k < length r.indices.items
    → get_or r.indices.items k None ≡ position (λ (b : BufferState). b.replica == k) r.list.items
