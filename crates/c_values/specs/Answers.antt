-- The answers of calls: which numbers say which code, and which answer a fault is.
use Rattle.std.specs.Prelude.{◌≡◌, ◌⊎◌, ℕ, Option, None, Some, min, ◌-◌, ◌^◌}
use Rattle.lamport_clock.specs.declared.stamp.Lamport.{Lamport}
use Rattle.op_model.specs.declared.faults.EditFault.{EditFault}
use Rattle.op_model.specs.declared.faults.EditFault.TheVariants as edit
use Rattle.op_model.specs.declared.faults.UndoFault.{UndoFault}
use Rattle.op_model.specs.declared.faults.UndoFault.TheVariants as undo
use Rattle.op_model.specs.declared.faults.OpFault.{OpFault}
use Rattle.op_model.specs.declared.faults.OpFault.TheVariants as op
use Rattle.op_model.specs.declared.faults.OpenFault.{OpenFault}
use Rattle.op_model.specs.declared.faults.OpenFault.TheVariants as opening
use Rattle.op_model.specs.declared.faults.SinceFault.{SinceFault}
use Rattle.op_model.specs.declared.faults.SinceFault.TheVariants as since
use Rattle.op_model.specs.declared.faults.PlaceFault.{PlaceFault}
use Rattle.op_model.specs.declared.faults.PlaceFault.TheVariants as places
use Rattle.op_model.specs.declared.faults.Unit.{Unit as UnitType}
use Rattle.op_model.specs.declared.faults.Unit.TheVariants.{Bytes, Entries}
use Rattle.c_values.specs.declared.answer.Answer.{Answer}
use Rattle.c_values.specs.declared.answer.Code.{Code}
use Rattle.c_values.specs.declared.answer.Code.TheVariants.{Done, Reversed, Overlap, PastEnd, InsideChar, TextLimit, ClockEnd, Full, NoSuchEdit, Twice, CountEnd, BadStamp, NoBase, Conflict, Forked, OpenVersion, Carriage, Unseen, NotBase, Repeat, Early, OutOfMemory, NotUtf8, NoRecord, NoRoom, Unknown, OutOfRange, Closed, Open, TooLong, NoPlace}

-- the number of a code
abbrev pub number : Code → ℕ
number Done = 0
number Reversed = 1
number Overlap = 2
number PastEnd = 3
number InsideChar = 4
number TextLimit = 5
number ClockEnd = 6
number Full = 7
number NoSuchEdit = 8
number Twice = 9
number CountEnd = 10
number BadStamp = 11
number NoBase = 12
number Conflict = 13
number Forked = 14
number OpenVersion = 15
number Carriage = 16
number Unseen = 17
number NotBase = 18
number Repeat = 19
number Early = 20
number OutOfMemory = 100
number NotUtf8 = 101
number NoRecord = 102
number NoRoom = 103
number Unknown = 104
number OutOfRange = 105
number Closed = 106
number Open = 107
number TooLong = 108
number NoPlace = 109

-- the answer of a code with its numbers
abbrev pub answer : Code → ℕ → ℕ → ℕ → Answer
answer c x y z = record { code = number c; index = 0; first = x; second = y; third = z }

-- the answer of a code that has no numbers
abbrev pub bare : Code → Answer
bare c = answer c 0 0 0

abbrev pub out_of_memory : Answer
out_of_memory = bare OutOfMemory

-- what is answered where the definitions give an answer: that one, or that an allocation failed
abbrev pub IsAnswer : Answer → Answer → Type 0
IsAnswer wanted a = (a ≡ wanted) ⊎ (a ≡ out_of_memory)

-- the room was written
abbrev pub IsRead : Answer → Type 0
IsRead a = (a.code ≡ 0) ⊎ (a.code ≡ 103)

-- why something is refused
abbrev pub IsRefusal : Answer → Answer → Type 0
IsRefusal wanted a = ((a ≡ wanted) × (a.code ≡ 0 → ⊥)) ⊎ ((wanted ≡ bare Done) × (a ≡ out_of_memory))

-- the answer of a handle, by what is inside
abbrev pub on_open : {X : Type 0} → Option X → (X → Answer) → Answer
on_open None f = bare Closed
on_open (Some x) f = f x

-- the answer of a code that says something of a stamp
abbrev pub stamp_answer : Code → Lamport → Answer
stamp_answer c t = answer c t.value t.replica 0

abbrev pub unit_number : UnitType → ℕ
unit_number Bytes = 0
unit_number Entries = 1

-- the number, or the greatest one of 64 bits
abbrev pub narrowed : ℕ → ℕ
narrowed n = min n (2 ^ 64 - 1)

-- the answer of a fault of an edit
abbrev pub edit_refusal : EditFault → Answer
edit_refusal (edit.Reversed i) = answer Reversed i 0 0
edit_refusal (edit.Overlap i) = answer Overlap i 0 0
edit_refusal (edit.PastEnd i n) = answer PastEnd i n 0
edit_refusal (edit.InsideChar i) = answer InsideChar i 0 0
edit_refusal (edit.TextLimit n) = answer TextLimit (narrowed n) 0 0
edit_refusal edit.ClockEnd = bare ClockEnd
edit_refusal (edit.Full unit held adds) = answer Full (unit_number unit) held adds
edit_refusal edit.OutOfMemory = out_of_memory

-- the answer of a fault of an undo
abbrev pub undo_refusal : UndoFault → Answer
undo_refusal (undo.NoSuchEdit t) = stamp_answer NoSuchEdit t
undo_refusal (undo.Twice t) = stamp_answer Twice t
undo_refusal (undo.CountEnd t) = stamp_answer CountEnd t
undo_refusal undo.ClockEnd = bare ClockEnd
undo_refusal (undo.Full unit held adds) = answer Full (unit_number unit) held adds
undo_refusal undo.OutOfMemory = out_of_memory

-- the answer of a fault of a taken operation
abbrev pub op_refusal : OpFault → Answer
op_refusal op.BadStamp = bare BadStamp
op_refusal op.NoBase = bare NoBase
op_refusal (op.TextLimit n) = answer TextLimit (narrowed n) 0 0
op_refusal (op.Reversed i) = answer Reversed i 0 0
op_refusal (op.Overlap i) = answer Overlap i 0 0
op_refusal (op.CarriageReturn i) = answer Carriage i 0 0
op_refusal (op.Conflict t) = stamp_answer Conflict t
op_refusal (op.Forked n) = answer Forked n 0 0
op_refusal (op.OpenVersion r) = answer OpenVersion r 0 0
op_refusal (op.PastEnd i n) = answer PastEnd i n 0
op_refusal (op.InsideChar i) = answer InsideChar i 0 0
op_refusal (op.NoSuchEdit t) = stamp_answer NoSuchEdit t
op_refusal (op.Full unit held adds) = answer Full (unit_number unit) held adds
op_refusal op.OutOfMemory = out_of_memory

-- the answer of a fault of a saved history
abbrev pub open_refusal : OpenFault → Answer
open_refusal opening.NotBase = bare NotBase
open_refusal (opening.Op i e) = record (op_refusal e) { index = i }
open_refusal (opening.Repeat i) = record (bare Repeat) { index = i }
open_refusal (opening.Early i r n) = record (answer Early n r 0) { index = i }
open_refusal opening.OutOfMemory = out_of_memory

-- the answer of a fault of a version
abbrev pub since_refusal : SinceFault → Answer
since_refusal (since.Unseen r) = answer Unseen r 0 0
since_refusal (since.OpenVersion r) = answer OpenVersion r 0 0
since_refusal since.OutOfMemory = out_of_memory

-- the answer of a fault of a place
abbrev pub place_refusal : PlaceFault → Answer
place_refusal (places.PastEnd n) = answer PastEnd 0 n 0
place_refusal places.InsideChar = bare InsideChar
