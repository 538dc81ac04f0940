-- What a stream of records unpacks to: the lines of its operations, or its first fault.
use Rattle.std.specs.Prelude.{◌≡◌, ℕ, List, [], Result, Ok, Err}
use Rattle.op_model.specs.declared.operation.Operation.{Operation}
use Rattle.op_wire.specs.declared.fault.WireFault.{WireFault}
use Rattle.op_wire.specs.Stream.{Fed, HasRead, Turn, finished, fresh, operations_of}
use Rattle.record_lines.specs.Lines.{operation_lines}

abbrev pub lines_or_fault : Result (List Operation) WireFault → Result (List ℕ) WireFault
lines_or_fault (Err e) = Err e
lines_or_fault (Ok ops) = Ok (operation_lines ops)

-- what the bytes unpack to: the lines of the operations of the stream, or its first fault
unfoldable pub lines_of_stream : List ℕ → Result (List ℕ) WireFault
lines_of_stream bytes = lines_or_fault (operations_of bytes)

-- ---- what a reader comes to

-- the lines of operations, unless the stream may not end after them
abbrev pub lines_unless : Result (Unit {0}) WireFault → List Operation → Result (List ℕ) WireFault
lines_unless (Err e) ops = Err e
lines_unless (Ok u) ops = Ok (operation_lines ops)

-- the lines of the operations that a reader reads which is fed all of the bytes, unless it answers a fault, at the first
-- faulty field or at the end
pub record Unpacks (bytes : List ℕ) (r : Result (List ℕ) WireFault) : Type 0 where
  pub ops : List Operation
  pub after : Fed
  pub read : Turn fresh bytes [] ops after
  pub text : r ≡ lines_unless (finished after) ops

-- ---- for private clauses

-- the reader was fed the bytes, and the lines of the operations that it read are written
pub record AreWritten (bytes : List ℕ) (reader : Fed) (lines : List ℕ) : Type 0 where
  pub ops : List Operation
  pub read : HasRead fresh bytes [] ops reader
  pub written : lines ≡ operation_lines ops
