-- Histories as records: saved, sent to a replica that lacks a part of them, and opened again.
use Rattle.std.specs.Prelude.{◌≡◌, ℕ, List, [], length, map, Option, None, Some, if◌then◌else◌}
use Rattle.std.specs.List.{flat_map}
use Rattle.lamport_clock.specs.Versions.{Entries, sees}
use Rattle.op_model.specs.Choice.{first_of}
use Rattle.op_model.specs.declared.operation.Operation.{Operation}
use Rattle.op_model.specs.Histories.{version}
use Rattle.op_model.specs.Operations.{stamp_of}
use Rattle.op_wire.specs.declared.fault.EncodeFault.{EncodeFault}
use Rattle.op_wire.specs.declared.fault.EncodeFault.TheVariants.{Long, OutOfMemory}
use Rattle.op_wire.specs.Spelling.{long_number, spelling}
use Rattle.c_values.specs.declared.answer.Answer.{Answer}
use Rattle.c_values.specs.declared.answer.Code.TheVariants.{Closed}
use Rattle.c_values.specs.Answers.{bare}
use Rattle.c_values.specs.Records.{record_unless}
use Rattle.c_values.specs.Room.{room_answer}
use Rattle.c_values.specs.Seen.{IsVersionAnswer, seen}
use Rattle.c_values.specs.declared.seen.Seen.{Seen}
use Rattle.buffer_handles.specs.declared.replica.Replica.{Replica}

-- the record of an operation that a version does not see, else nothing
abbrev pub unseen_record : Entries → Operation → List ℕ
unseen_record v op = if sees v (stamp_of op) then [] else spelling op

-- the number of an operation that a version does not see that is too great for a record, if there is one
abbrev pub unseen_long : Entries → Operation → Option ℕ
unseen_long v op = if sees v (stamp_of op) then None else long_number op

-- the first such number in a history
abbrev pub first_long : Entries → List Operation → Option ℕ
first_long v h = first_of (map (unseen_long v) h)

-- the answer where the records of what a version does not see are to be written
abbrev pub unseen_answer : List Operation → Entries → ℕ → Answer
unseen_answer h v room = record_unless (first_long v h) (length (flat_map (unseen_record v) h)) room

-- the same, where entries need not be a version
abbrev pub IsUnseenAnswer : List Operation → Entries → ℕ → Answer → Type 0
IsUnseenAnswer h v room a = IsVersionAnswer v (unseen_answer h v room) a

-- a list of operations is not written: for the first number that is too great, or where an allocation failed
abbrev pub IsLong : Option ℕ → EncodeFault → Type 0
IsLong o (Long n) = o ≡ Some n
IsLong o OutOfMemory = Unit {0}

abbrev pub version_answer : List Operation → ℕ → Answer
version_answer h room = room_answer (length (version h)) room

-- ---- the same of a replica that a handle holds

abbrev pub IsRecordsInside : Option Replica → Entries → ℕ → Answer → Type 0
IsRecordsInside None v room a = a ≡ bare Closed
IsRecordsInside (Some r) v room a = IsUnseenAnswer r.buffer.history v room a

abbrev pub records_inside : Option Replica → Entries → List ℕ
records_inside None v = []
records_inside (Some r) v = flat_map (unseen_record v) r.buffer.history

abbrev pub version_inside : Option Replica → List Seen
version_inside None = []
version_inside (Some r) = map seen (version r.buffer.history)
