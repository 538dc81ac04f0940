-- Worked rows: the record and the line of one insertion, and what bytes that are no records come to.
use Rattle.std.proofs.Common.{◌≡◌, ℕ, List, [], ◌∷◌, take, Ok, Err, refl, arith}
use Rattle.std.specs.Fmt.{digits}
use Rattle.std.specs.Prelude.{codes}
use Rattle.json.proofs.Printed.Utf8.{IsUtf8-are_ascii}
use Rattle.json.specs.Print.{escape_byte}
use Rattle.op_model.specs.declared.operation.Operation.{Operation}
use Rattle.op_model.specs.declared.operation.Operation.TheVariants.{Edit}
use Rattle.op_wire.specs.declared.fault.WireFault.TheVariants as faults
use Rattle.op_wire.specs.Reading.{stamp_at, checked_at, entry_at, entries_at, version_at, string_at, text_at, range_at, piece_at, pieces_at, all_pieces_at, head_at, edit_at, record_at}
use Rattle.op_wire.specs.Spelling.{HasSpelling}
use Rattle.op_wire.specs.Stream.{operations_of}
use Rattle.record_lines.specs.Packing.{records_of}
use Rattle.record_lines.specs.Unpacking.{lines_of_stream}
use Rattle.record_lines.specs.Words.{fault_line, long_line}
use Rattle.record_lines.proofs.Feeds.{records_unpack}

-- an insertion of X
abbrev insertion : Operation
insertion = Edit (record { stamp = record { value = 2; replica = 1 }; version = (0, 1) ∷ []; pieces = record { start = 1; end = 1; text = 88 ∷ [] } ∷ [] })

abbrev row : List ℕ
row = 1 ∷ 0 ∷ 0 ∷ 0 ∷ 2 ∷ 0 ∷ 1 ∷ 0 ∷ 0 ∷ 0 ∷ 1 ∷ 0 ∷ 0 ∷ 0 ∷ 0 ∷ 0 ∷ 1 ∷ 0 ∷ 0 ∷ 0 ∷ 1 ∷ 0 ∷ 0 ∷ 0 ∷ 0 ∷ 0 ∷ 0 ∷ 0 ∷ 1 ∷ 0 ∷ 0 ∷ 0 ∷ 0 ∷ 0 ∷ 0 ∷ 0 ∷ 1 ∷ 0 ∷ 0 ∷ 0 ∷ 1 ∷ 88 ∷ []

-- the operation of line 2 of a session
pub insertion_packed : records_of ((2, insertion) ∷ []) ≡ Ok row
unfolding records_of
insertion_packed = refl

pub long_in_words : long_line 2 ≡ codes "session line 2: long\n"
unfolding long_line digits
long_in_words = refl

insertion_spelled : HasSpelling insertion
insertion_spelled = record {
  stamp = (omega arith, omega arith);
  version = (omega arith, omega arith, omega arith, omega arith, tt);
  pieces = ((omega arith, (omega arith, IsUtf8-are_ascii (88 ∷ []) refl)), tt);
  counts = tt;
  short = refl;
}

pub insertion_unpacked : lines_of_stream row ≡ Ok (codes "[\"op\",[2,1],[[0,1]],[[1,1,\"X\"]]]\n")
unfolding escape_byte digits
insertion_unpacked = records_unpack (insertion ∷ []) (insertion_spelled, tt)

pub nothing_unpacked : lines_of_stream [] ≡ Ok []
nothing_unpacked = records_unpack [] tt

pub front_unpacked : lines_of_stream (take 41 row) ≡ Err (faults.Cut 0)
unfolding lines_of_stream operations_of record_at edit_at head_at all_pieces_at pieces_at piece_at range_at text_at string_at version_at entries_at entry_at checked_at stamp_at
front_unpacked = refl

pub cut_in_words : fault_line (faults.Cut 0) ≡ codes "record at 0: cut\n"
unfolding fault_line digits
cut_in_words = refl

pub kind_unpacked : lines_of_stream (3 ∷ []) ≡ Err (faults.Kind 0)
unfolding lines_of_stream operations_of record_at
kind_unpacked = refl

pub kind_in_words : fault_line (faults.Kind 0) ≡ codes "record at 0: kind\n"
unfolding fault_line digits
kind_in_words = refl
