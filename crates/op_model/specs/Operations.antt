-- The parts of an operation. An undo has no pieces, an edit no counts.
use Rattle.std.specs.Prelude.{ℕ, ◌+◌, List, [], ◌∷◌, length, Bool, true, false}
use Rattle.lamport_clock.specs.declared.stamp.Lamport.{Lamport}
use Rattle.lamport_clock.specs.Versions.{Entries}
use Rattle.op_model.specs.declared.operation.Piece.{Piece}
use Rattle.op_model.specs.declared.operation.UndoCount.{UndoCount}
use Rattle.op_model.specs.declared.operation.Operation.{Operation}
use Rattle.op_model.specs.declared.operation.Operation.TheVariants.{Edit, Undo}

abbrev pub stamp_of : Operation → Lamport
stamp_of (Edit e) = e.stamp
stamp_of (Undo u) = u.stamp

abbrev pub version_of : Operation → Entries
version_of (Edit e) = e.version
version_of (Undo u) = u.version

abbrev pub pieces_of : Operation → List Piece
pieces_of (Edit e) = e.pieces
pieces_of (Undo u) = []

abbrev pub counts_of : Operation → List UndoCount
counts_of (Edit e) = []
counts_of (Undo u) = u.counts

abbrev pub is_edit : Operation → Bool
is_edit (Edit e) = true
is_edit (Undo u) = false

-- the most bytes of the new texts of one operation
abbrev pub text_limit : ℕ
text_limit = 65536

-- the greatest id of an editor's replica
abbrev pub last_replica : ℕ
last_replica = 1023

-- the bytes of all new texts
abbrev pub text_total : List Piece → ℕ
text_total [] = 0
text_total (p ∷ ps) = length p.text + text_total ps

-- what an operation adds to the bytes and to the entries that a buffer holds
abbrev pub bytes_of : Operation → ℕ
bytes_of op = text_total (pieces_of op)

abbrev pub entries_of : Operation → ℕ
entries_of op = 1 + length (pieces_of op) + length (counts_of op)
