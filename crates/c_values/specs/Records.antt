-- Records of operations: what is written of a replica, and what is read.
use Rattle.std.specs.Prelude.{◌≡◌, ◌⊎◌, ℕ, List, [], Option, None, Some, Err}
use Rattle.std.specs.List.{AllByRecursion, flat_map}
use Rattle.op_model.specs.declared.operation.Operation.{Operation}
use Rattle.op_wire.specs.Spelling.{HasSpelling, long_number, spelling}
use Rattle.op_wire.specs.Stream.{Fed, FeedCause, HasRead, finished, fresh}
use Rattle.op_wire.specs.declared.fault.WireFault.{WireFault}
use Rattle.op_wire.specs.declared.fault.WireFault.TheVariants as wire
use Rattle.c_values.specs.declared.answer.Answer.{Answer}
use Rattle.c_values.specs.declared.answer.Code.TheVariants.{NoRecord, TooLong}
use Rattle.c_values.specs.Answers.{answer, out_of_memory}
use Rattle.c_values.specs.Room.{room_answer}

-- the answer where a record of n bytes is to be written, or a number of the operation is too great for one
abbrev pub record_unless : Option ℕ → ℕ → ℕ → Answer
record_unless None n room = room_answer n room
record_unless (Some k) n room = answer TooLong k 0 0

-- the bytes are the records of these operations
pub record AreRecords (bytes : List ℕ) (ops : List Operation) : Type 0 where
  pub whole : bytes ≡ flat_map spelling ops
  pub each : AllByRecursion HasSpelling ops

-- the answer of a fault of bytes
abbrev pub wire_refusal : WireFault → Answer
wire_refusal (wire.Kind at) = answer NoRecord at 0 0
wire_refusal (wire.Order at) = answer NoRecord at 0 0
wire_refusal (wire.Zero at) = answer NoRecord at 0 0
wire_refusal (wire.Long at) = answer NoRecord at 0 0
wire_refusal (wire.Utf8 at) = answer NoRecord at 0 0
wire_refusal (wire.Cut at) = answer NoRecord at 0 0
wire_refusal wire.OutOfMemory = out_of_memory

-- a reader that is fed the bytes answers this fault, at once, or where the stream is to end
abbrev pub IsFaultOf : List ℕ → WireFault → Type 0
IsFaultOf bytes e = (ops : List Operation) × (new : Fed)
    × (FeedCause e fresh bytes [] ops new ⊎ (HasRead fresh bytes [] ops new × (finished new ≡ Err e)))

-- the answer where bytes are no records, or an allocation failed
abbrev pub IsNoRecord : List ℕ → Answer → Type 0
IsNoRecord bytes a = (e : WireFault) × IsFaultOf bytes e × (a ≡ wire_refusal e)
