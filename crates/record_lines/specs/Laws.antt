-- Laws of packed and unpacked operations, which src/laws.rt shows.
use Rattle.std.specs.Prelude.{◌≡◌, ◌<◌, ℕ, true, false, List, ◌++◌, length, map, codes, Result, Ok}
use Rattle.std.specs.List.{AllByRecursion, flat_map}
use Rattle.op_model.specs.declared.operation.Operation.{Operation}
use Rattle.op_wire.specs.declared.fault.WireFault.{WireFault}
use Rattle.op_wire.specs.Reading.{IsBytes}
use Rattle.op_wire.specs.Spelling.{HasSpelling, spelling}
use Rattle.session_lines.specs.Before.{BeforeState, line_read, returns_barred}
use Rattle.session_lines.specs.Session.{header_of, lines_limit, session_of_text}
use Rattle.session_lines.specs.declared.header.Header.{Header}
use Rattle.session_writer.specs.Readable.{is_one_line}
use Rattle.record_lines.specs.Lines.{operation_lines, operation_text, session_line}
use Rattle.record_lines.specs.Unpacking.{Unpacks, lines_of_stream}

-- bytes unpack to one thing alone, which a reader comes to that is fed all of them
abbrev pub UnpacksToOne : Type 0
UnpacksToOne = (bytes : List ℕ) → (r : Result (List ℕ) WireFault) → Unpacks bytes r
    → lines_of_stream bytes ≡ r

-- records one after the other unpack to the lines of their operations
abbrev pub RecordsUnpack : Type 0
RecordsUnpack = (ops : List Operation) → AllByRecursion HasSpelling ops
    → lines_of_stream (flat_map spelling ops) ≡ Ok (operation_lines ops)

-- what unpacks to lines are the records of operations, and the lines are those of these
abbrev pub UnpackedAreRecords : Type 0
UnpackedAreRecords = (bytes text : List ℕ) → IsBytes bytes → lines_of_stream bytes ≡ Ok text
    → (ops : List Operation) × AllByRecursion HasSpelling ops × (bytes ≡ flat_map spelling ops)
    × (text ≡ operation_lines ops)

-- the line of an operation that has a record is read as it, after any lines of a session in whose texts a CR may be
abbrev pub LinesAreRead : Type 0
LinesAreRead = (op : Operation) → (before : BeforeState) → HasSpelling op → returns_barred before ≡ false
    → line_read before (operation_text op) ≡ Ok (session_line op)

-- after a header, lines of operations that have records are a session with these, if they are not too many
abbrev pub LinesAreSession : Type 0
LinesAreSession = (line : List ℕ) → (header : Header) → (ops : List Operation) → is_one_line line ≡ true
    → header_of false line ≡ Ok header → AllByRecursion HasSpelling ops → length ops < lines_limit
    → session_of_text false (line ++ (codes "\n" ++ operation_lines ops))
    ≡ Ok (record {
      version = header.version;
      base = header.base;
      replicas = header.replicas;
      lines = map session_line ops;
    })
