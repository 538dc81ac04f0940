-- What a stream of records is read as, in whatever pieces it comes.
use Rattle.std.specs.Prelude.{◌≡◌, ◌≤◌, ℕ, ◌+◌, ◌-◌, List, [], ◌∷◌, ◌++◌, ◌⊎◌, length, zero, suc, Option, Some, None, Result, Ok, Err}
use Rattle.std.specs.List.{flat_map, AllByRecursion}
use Rattle.op_model.specs.declared.operation.Operation.{Operation}
use Rattle.op_wire.specs.declared.fault.Word.{Word}
use Rattle.op_wire.specs.declared.fault.Word.TheVariants.{Kind, Order, Zero, Long, Utf8}
use Rattle.op_wire.specs.declared.fault.WireFault.{WireFault}
use Rattle.op_wire.specs.declared.fault.WireFault.TheVariants as faults
use Rattle.op_wire.specs.declared.fault.Stop.{Stop}
use Rattle.op_wire.specs.declared.fault.Stop.TheVariants.{Short, Bad}
use Rattle.op_wire.specs.Spelling.{spelling, HasSpelling}
use Rattle.op_wire.specs.Reading.{Read, record_at}

-- the bytes are the records of these operations, and then a rest
pub record Splits (bytes : List ℕ) (ops : List Operation) (rest : List ℕ) : Type 0 where
  pub whole : bytes ≡ flat_map spelling ops ++ rest
  pub each : AllByRecursion HasSpelling ops

-- operations are appended to a list, and the bytes are their records and a rest
pub record Appends (bytes : List ℕ) (old new : List Operation) (rest : List ℕ) : Type 0 where
  pub ops : List Operation
  pub appended : new ≡ old ++ ops
  pub splits : Splits bytes ops rest

-- the rest begins with no whole record, and has no whole faulty field where a record would begin
abbrev pub IsUnfinished : List ℕ → Type 0
IsUnfinished rest = record_at rest ≡ Err Short

-- the first faulty field of the rest has this word, and n is the number of bytes from the field on
abbrev pub IsFaulty : List ℕ → Word → ℕ → Type 0
IsFaulty rest w n = record_at rest ≡ Err (Bad w n)

-- operations are appended, and then comes a rest of m bytes, whose first faulty field is n bytes from the end
pub record Halts (bytes : List ℕ) (old new : List Operation) (w : Word) (n m : ℕ) : Type 0 where
  pub rest : List ℕ
  pub reads : Appends bytes old new rest
  pub faulty : IsFaulty rest w n
  pub within : n ≤ m
  pub part : m ≤ length bytes
  pub size : m ≡ length rest

-- the fault of a field at this offset of the stream
abbrev pub fault_at : Word → ℕ → WireFault
fault_at Kind at = faults.Kind at
fault_at Order at = faults.Order at
fault_at Zero at = faults.Zero at
fault_at Long at = faults.Long at
fault_at Utf8 at = faults.Utf8 at

-- ---- a reader

-- the offset in the stream at which the rest begins, the rest, which is held, and the fault that was answered
pub record Fed : Type 0 where
  pub start : ℕ
  pub rest : List ℕ
  pub fault : Option WireFault

abbrev pub fresh : Fed
fresh = record { start = 0; rest = []; fault = None }

abbrev pub bytes_fed : Fed → ℕ
bytes_fed f = f.start + length f.rest

-- the rest and the piece are the records of what was appended, and a new rest, which is unfinished and is held
pub record HasRead (old : Fed) (piece : List ℕ) (before after : List Operation) (new : Fed) : Type 0 where
  pub sound : old.fault ≡ None
  pub reads : Appends (old.rest ++ piece) before after new.rest
  pub unfinished : IsUnfinished new.rest
  pub counted : bytes_fed new ≡ bytes_fed old + length piece
  pub still : new.fault ≡ None

-- the reader and the list are as before
abbrev pub Stays : Fed → List Operation → Fed → List Operation → Type 0
Stays old before new after = (new ≡ old) × (after ≡ before)

-- what a reader is after a fault in a rest of n bytes, the last of those that were fed: nothing is held
abbrev pub faulted : ℕ → ℕ → WireFault → Fed
faulted fed n e = record { start = fed - n; rest = []; fault = Some e }

-- the rest and the piece are the records of what was appended, and a new rest, whose first faulty field is the fault
pub record Finds (e : WireFault) (old : Fed) (piece : List ℕ) (before after : List Operation) (new : Fed) : Type 0 where
  pub sound : old.fault ≡ None
  pub rest : List ℕ
  pub reads : Appends (old.rest ++ piece) before after rest
  pub word : Word
  pub left : ℕ
  pub faulty : IsFaulty rest word left
  pub within : left ≤ length rest
  pub is : e ≡ fault_at word (bytes_fed old + length piece - left)
  pub answered : new ≡ faulted (bytes_fed old + length piece) (length rest) e

-- why a feed fails: a fault was answered before; or the fault was found now; or, if neither, an allocation failed
abbrev pub FeedCause : WireFault → Fed → List ℕ → List Operation → List Operation → Fed → Type 0
FeedCause e old piece before after new =
    ((old.fault ≡ Some e) × Stays old before new after)
    ⊎ (Finds e old piece before after new ⊎ ((e ≡ faults.OutOfMemory) × (old.fault ≡ None) × Stays old before new after))

abbrev pub finished_with : ℕ → List ℕ → Option WireFault → Result (Unit {0}) WireFault
finished_with start rest (Some e) = Err e
finished_with start [] None = Ok tt
finished_with start (b ∷ rest) None = Err (faults.Cut start)

-- what the end of the stream comes to
abbrev pub finished : Fed → Result (Unit {0}) WireFault
finished f = finished_with f.start f.rest f.fault

-- ---- feeds in turn

-- a feed in which no allocation failed
abbrev pub Turn : Fed → List ℕ → List Operation → List Operation → Fed → Type 0
Turn old piece before after new =
    HasRead old piece before after new
    ⊎ ((e : WireFault) × (((old.fault ≡ Some e) × Stays old before new after) ⊎ Finds e old piece before after new))

-- such feeds, one for each piece
abbrev pub Turns : Fed → List (List ℕ) → List Operation → List Operation → Fed → Type 0
Turns old [] before after new = Stays old before new after
Turns old (piece ∷ pieces) before after new =
    (between : List Operation) × (next : Fed) × Turn old piece before between next × Turns next pieces between after new

-- ---- whole streams

-- the fault of a stream of `size` bytes, of which the last `left` begin with no record: reading it stops here
abbrev pub fault_of : ℕ → ℕ → Stop → WireFault
fault_of size left Short = faults.Cut (size - left)
fault_of size left (Bad word n) = fault_at word (size - n)

-- an operation before those that follow it
abbrev pub with_first : Operation → Result (List Operation) WireFault → Result (List Operation) WireFault
with_first op (Ok ops) = Ok (op ∷ ops)
with_first op (Err e) = Err e

-- an operation and those that are read of the bytes after it; or the fault, where reading stops
abbrev pub then_others
    : (List ℕ → Result (List Operation) WireFault) → (Stop → WireFault) → Read Operation → Result (List Operation) WireFault
then_others others fault (Ok first) = with_first first.0 (others first.1)
then_others others fault (Err stop) = Err (fault stop)

-- the operations of the last bytes of a stream of `size` bytes, n records at most
abbrev pub operations_in : ℕ → ℕ → List ℕ → Result (List Operation) WireFault
operations_in zero size bytes = Ok []
operations_in (suc n) size [] = Ok []
operations_in (suc n) size (b ∷ bytes) =
    then_others (operations_in n size) (fault_of size (length (b ∷ bytes))) (record_at (b ∷ bytes))

-- the operations of a stream of records, or its first fault. A record has a byte at least
unfoldable pub operations_of : List ℕ → Result (List Operation) WireFault
operations_of bytes = operations_in (length bytes) (length bytes) bytes

-- the operations that were read, unless the stream may not end after them
abbrev pub operations_unless : Result (Unit {0}) WireFault → List Operation → Result (List Operation) WireFault
operations_unless (Err e) ops = Err e
operations_unless (Ok u) ops = Ok ops
