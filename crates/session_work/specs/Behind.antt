-- What was taken in of the buffers of a session's replicas.
use Rattle.std.specs.Prelude.{ℕ, List, IfSome}
use Rattle.text_buffer.specs.Buffer.{BufferState}
use Rattle.session_folds.specs.State.{GoesOnAt, ReplicaFolds}
use Rattle.session_work.specs.Work.{buffer_of}

-- the map of each replica, if there is one, is over a text that the replica's buffer had before, or has
abbrev pub AreBehind : List BufferState → List ReplicaFolds → Type 0
AreBehind bs fs = (r : ℕ) → IfSome (buffer_of r bs) (λ b. GoesOnAt r b.history fs)
