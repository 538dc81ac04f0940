-- Laws of records and of streams, which src/laws.rt shows.
use Rattle.std.specs.Prelude.{◌≡◌, ◌≤◌, ℕ, ◌+◌, List, [], ◌++◌, length, Ok, Err}
use Rattle.std.specs.List.{flat_map, AllByRecursion, concat}
use Rattle.lamport_clock.specs.Versions.{Entries, IsVersion}
use Rattle.op_model.specs.declared.operation.Operation.{Operation}
use Rattle.op_wire.specs.declared.fault.Word.{Word}
use Rattle.op_wire.specs.declared.fault.Stop.{Stop}
use Rattle.op_wire.specs.Spelling.{limit, spelling, HasSpelling}
use Rattle.op_wire.specs.Reading.{IsBytes, record_at}
use Rattle.op_wire.specs.Stream.{IsFaulty, Fed, finished, fresh, operations_of, operations_unless, Turn, Turns}

-- ---- records

-- what begins with a record is read as its operation, whatever follows
abbrev pub SpelledIsRead : Type 0
SpelledIsRead = (op : Operation) → (rest : List ℕ) → HasSpelling op → record_at (spelling op ++ rest) ≡ Ok (op, rest)

-- what is read is spelled so, and has a spelling
abbrev pub ReadIsSpelled : Type 0
ReadIsSpelled = (bytes rest : List ℕ) → (op : Operation) → IsBytes bytes → record_at bytes ≡ Ok (op, rest)
    → (bytes ≡ spelling op ++ rest) × HasSpelling op

-- no record begins another
abbrev pub NonePrefixes : Type 0
NonePrefixes = (a b : Operation) → (x y : List ℕ) → HasSpelling a → HasSpelling b → spelling a ++ x ≡ spelling b ++ y
    → (a ≡ b) × (x ≡ y)

-- two lists of operations with the same bytes are one list
abbrev pub OneReading : Type 0
OneReading = (ops others : List Operation) → AllByRecursion HasSpelling ops → AllByRecursion HasSpelling others
    → flat_map spelling ops ≡ flat_map spelling others → ops ≡ others

-- the first faulty field stays the first one, whatever follows
abbrev pub FaultsStay : Type 0
FaultsStay = (bytes more : List ℕ) → (w : Word) → (n : ℕ) → IsBytes bytes → IsFaulty bytes w n
    → (n ≤ length bytes) × IsFaulty (bytes ++ more) w (n + length more)

-- no record stands at the front of the rest
abbrev pub HasNoRecord : List ℕ → Type 0
HasNoRecord rest = (op : Operation) → (more : List ℕ) → HasSpelling op → rest ≡ spelling op ++ more → ⊥

-- an unfinished rest begins with no record and has no whole faulty field; where reading stops at all there is no record
abbrev pub StopsHaveNone : Type 0
StopsHaveNone = (rest : List ℕ) → (s : Stop) → record_at rest ≡ Err s → HasNoRecord rest

-- a version has no more entries than the limit
abbrev pub VersionsAreShort : Type 0
VersionsAreShort = (v : Entries) → IsVersion v → length v ≤ limit

-- ---- streams

-- bytes are one list of records and one rest that begins with none
abbrev pub OneSplit : Type 0
OneSplit = (ops others : List Operation) → (rest other : List ℕ)
    → AllByRecursion HasSpelling ops → AllByRecursion HasSpelling others → HasNoRecord rest → HasNoRecord other
    → flat_map spelling ops ++ rest ≡ flat_map spelling others ++ other → (ops ≡ others) × (rest ≡ other)

-- what a feed comes to is determined, unless an allocation fails
abbrev pub TurnsAgree : Type 0
TurnsAgree = (old new other : Fed) → (piece : List ℕ) → (before after others : List Operation)
    → Turn old piece before after new → Turn old piece before others other → (after ≡ others) × (new ≡ other)

-- a reader that is fed a and then b appends and holds what one does that is fed a ++ b
abbrev pub TurnsJoin : Type 0
TurnsJoin = (old next new : Fed) → (a b : List ℕ) → (before between after : List Operation)
    → IsBytes (old.rest ++ a) → Turn old a before between next → Turn next b between after new
    → Turn old (a ++ b) before after new

-- two ways to cut a stream into pieces give the same operations, and leave the reader the same
abbrev pub CutsDoNotMatter : Type 0
CutsDoNotMatter = (pieces others : List (List ℕ)) → (after other : List Operation) → (new same : Fed)
    → IsBytes (concat pieces) → concat pieces ≡ concat others
    → Turns fresh pieces [] after new → Turns fresh others [] other same → (after ≡ other) × (new ≡ same)

-- ---- whole streams

-- a reader that is fed a whole stream, and then its end, comes to the operations of the stream, or to its first fault
abbrev pub StreamsAreRead : Type 0
StreamsAreRead = (bytes : List ℕ) → (ops : List Operation) → (reader : Fed) → Turn fresh bytes [] ops reader
    → operations_of bytes ≡ operations_unless (finished reader) ops

-- and so it does in whatever pieces the stream comes
abbrev pub PiecesAreRead : Type 0
PiecesAreRead = (pieces : List (List ℕ)) → (ops : List Operation) → (reader : Fed) → IsBytes (concat pieces)
    → Turns fresh pieces [] ops reader → operations_of (concat pieces) ≡ operations_unless (finished reader) ops

-- records one after the other are a stream of their operations
abbrev pub RecordsAreStreams : Type 0
RecordsAreStreams = (ops : List Operation) → AllByRecursion HasSpelling ops
    → operations_of (flat_map spelling ops) ≡ Ok ops

-- a stream that has no fault is the records of its operations
abbrev pub StreamsAreRecords : Type 0
StreamsAreRecords = (bytes : List ℕ) → (ops : List Operation) → IsBytes bytes → operations_of bytes ≡ Ok ops
    → (bytes ≡ flat_map spelling ops) × AllByRecursion HasSpelling ops
