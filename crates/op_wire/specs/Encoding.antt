-- What encode answers, and what it knows before it writes.
use Rattle.std.specs.Prelude.{◌≡◌, ◌≤◌, ℕ, Some, None, List, length}
use Rattle.std.specs.List.{AllByRecursion}
use Rattle.op_model.specs.declared.operation.Piece.{Piece}
use Rattle.op_model.specs.declared.operation.Operation.{Operation}
use Rattle.op_model.specs.Operations.{text_total}
use Rattle.op_wire.specs.declared.fault.EncodeFault.{EncodeFault}
use Rattle.op_wire.specs.declared.fault.EncodeFault.TheVariants.{Long, OutOfMemory}
use Rattle.op_wire.specs.Spelling.{limit, spelling, long_number, long_sum, IsPiece, HasSpelling}

-- why an operation is refused: for a number of its record, or, if none passes the limit, where an allocation failed
abbrev pub EncodeCause : EncodeFault → Operation → Type 0
EncodeCause (Long n) op = long_number op ≡ Some n
EncodeCause OutOfMemory op = long_number op ≡ None

-- pieces of an edit in memory whose texts have that many bytes together, which the limit allows
pub record HaveBytes (ps : List Piece) (n : ℕ) : Type 0 where
  pub total : n ≡ text_total ps
  pub most : n ≤ limit
  pub short : long_sum 0 ps ≡ None
  pub each : AllByRecursion IsPiece ps

-- an operation that has a spelling, of that many bytes
pub record HasSize (op : Operation) (n : ℕ) : Type 0 where
  pub fits : HasSpelling op
  pub size : n ≡ length (spelling op)
