-- The lines for streams and for operations that are refused.
use Rattle.std.specs.Prelude.{ℕ, List, [], ◌++◌, codes, decimal}
use Rattle.op_wire.specs.declared.fault.WireFault.{WireFault}
use Rattle.op_wire.specs.declared.fault.WireFault.TheVariants.{Kind, Order, Zero, Long, Utf8, Cut, OutOfMemory}

abbrev pub record_line : ℕ → List ℕ → List ℕ
record_line at word = codes "record at " ++ (decimal at ++ (codes ": " ++ (word ++ codes "\n")))

-- the line for a stream with that fault; a failed allocation has none
unfoldable pub fault_line : WireFault → List ℕ
fault_line (Kind at) = record_line at (codes "kind")
fault_line (Order at) = record_line at (codes "order")
fault_line (Zero at) = record_line at (codes "zero")
fault_line (Long at) = record_line at (codes "long")
fault_line (Utf8 at) = record_line at (codes "utf8")
fault_line (Cut at) = record_line at (codes "cut")
fault_line OutOfMemory = []

-- the line for a session in which the operation of line n is too long for a record
unfoldable pub long_line : ℕ → List ℕ
long_line n = codes "session line " ++ (decimal n ++ codes ": long\n")
