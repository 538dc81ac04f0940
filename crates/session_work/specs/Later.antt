-- Later buffers of the same replicas.
use Rattle.std.specs.Prelude.{◌≡◌, List}
use Rattle.std.specs.List.{AllZip}
use Rattle.text_buffer.specs.Buffer.{BufferState}
use Rattle.text_buffer.specs.Document.{IsFront}

-- n is a later buffer of the same replica
abbrev pub Grows : BufferState → BufferState → Type 0
Grows b n = (n.replica ≡ b.replica) × IsFront b.history n.history

-- the buffers of all replicas
abbrev pub AllGrow : List BufferState → List BufferState → Type 0
AllGrow bs cs = AllZip Grows bs cs
