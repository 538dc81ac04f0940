-- What waits, what is forgotten of it, and what was refused.
use Rattle.std.specs.Prelude.{ℕ, List, [], length, map, Option, None, Some}
use Rattle.lamport_clock.specs.declared.stamp.Lamport.{Lamport}
use Rattle.op_model.specs.declared.operation.Operation.{Operation}
use Rattle.op_model.specs.Histories.{operation_at}
use Rattle.op_model.specs.Operations.{stamp_of}
use Rattle.op_model.specs.Steps.{without}
use Rattle.text_buffer.specs.Buffer.{BufferState}
use Rattle.c_values.specs.declared.answer.Answer.{Answer}
use Rattle.c_values.specs.declared.answer.Code.TheVariants.{Done}
use Rattle.c_values.specs.declared.refusals.Refusal.{Refusal}
use Rattle.c_values.specs.declared.stamps.Stamp.{Stamp}
use Rattle.c_values.specs.Answers.{answer}
use Rattle.c_values.specs.Refusals.{refusal}
use Rattle.c_values.specs.Room.{room_answer}
use Rattle.c_values.specs.Stamps.{lamport, stamp}
use Rattle.buffer_handles.specs.declared.replica.Replica.{Replica}

-- ---- forgetting

abbrev pub number_forgotten : Option Operation → ℕ
number_forgotten None = 0
number_forgotten (Some op) = 1

-- the answer where the operation of a stamp is to be forgotten
abbrev pub forget_answer : Replica → Stamp → Answer
forget_answer r s = answer Done (number_forgotten (operation_at r.buffer.waiting (lamport s))) 0 0

abbrev pub with_waiting : Replica → List Operation → Replica
with_waiting r ops = record r { buffer = record r.buffer { waiting = ops } }

abbrev pub forgotten : Replica → Stamp → Replica
forgotten r s = with_waiting r (without (lamport s) r.buffer.waiting)

-- ---- what waits

abbrev pub flat_stamp : Operation → Stamp
flat_stamp op = stamp (stamp_of op)

abbrev pub waiting_answer : BufferState → ℕ → Answer
waiting_answer b room = room_answer (length b.waiting) room

-- the stamps of what waits in a buffer that a handle holds
abbrev pub waiting_inside : Option Replica → List Stamp
waiting_inside None = []
waiting_inside (Some r) = map flat_stamp r.buffer.waiting

-- ---- what was refused

abbrev pub refused_answer : BufferState → ℕ → Answer
refused_answer b room = room_answer (length b.refused) room

-- what was refused of what waited in a buffer that a handle holds
abbrev pub refused_inside : Option Replica → List Refusal
refused_inside None = []
refused_inside (Some r) = map refusal r.buffer.refused
