-- What the values have that the code read.
use Rattle.std.proofs.Common.{ℕ, ◌+◌, ◌≤◌, List, length, Result, Ok, Err}
use Rattle.std.specs.Prelude.{IfOk}
use Rattle.lamport_clock.specs.Versions.{Entries, IsVersion}
use Rattle.op_model.specs.declared.operation.Piece.{Piece}
use Rattle.op_wire.specs.declared.fault.ReadError.{ReadError}
use Rattle.op_wire.specs.Spelling.{limit}
use Rattle.op_wire.specs.Reading.{IsBytes, Gives, entries_at, piece_at}
use Rattle.op_wire.proofs.Records.{entries-read, piece-reads}

pub ascend : {X : Type 0} (view : X → Entries × List ℕ) (n : ℕ) (bytes : List ℕ) (r : Result X ReadError) → IsBytes bytes → Gives view r (entries_at n 0 bytes) → IfOk r (λ x. IsVersion (view x).0)
ascend view n bytes (Ok x) fits given = ((entries-read n 0).takes bytes (view x) fits given).1.1
ascend view n bytes (Err e) fits given = tt

pub fits_in : {X : Type 0} (view : X → Piece × List ℕ) (so_far : ℕ) (bytes : List ℕ) (r : Result X ReadError) → IsBytes bytes → Gives view r (piece_at so_far bytes) → IfOk r (λ x. so_far + length (view x).0.text ≤ limit)
fits_in view so_far bytes (Ok x) fits given = ((piece-reads so_far).takes bytes (view x) fits given).1.1
fits_in view so_far bytes (Err e) fits given = tt
