-- The record of the operation that a replica made last.
use Rattle.std.specs.Prelude.{ℕ, List, [], length, Option, None, Some}
use Rattle.op_model.specs.declared.operation.Operation.{Operation}
use Rattle.op_wire.specs.Spelling.{long_number, spelling}
use Rattle.c_values.specs.declared.answer.Answer.{Answer}
use Rattle.c_values.specs.Records.{record_unless}
use Rattle.c_values.specs.Room.{room_answer}
use Rattle.buffer_handles.specs.declared.replica.Replica.{Replica}

-- the record of the last operation, nothing where there is none
abbrev pub made_record : Option Operation → List ℕ
made_record None = []
made_record (Some op) = spelling op

abbrev pub record_answer : Option Operation → ℕ → Answer
record_answer None room = room_answer 0 room
record_answer (Some op) room = record_unless (long_number op) (length (spelling op)) room

-- the record of the last operation of a replica that a handle holds
abbrev pub record_inside : Option Replica → List ℕ
record_inside None = []
record_inside (Some r) = made_record r.made
