-- The one record of each operation, as bytes, and which operations have one. Numbers are unsigned and big-endian.
use Rattle.std.specs.Prelude.{◌≡◌, ℕ, ◌+◌, ◌<◌, ◌^◌, List, [], ◌∷◌, ◌++◌, length, Option, Some, None, nat_lt, if◌then◌else◌, IsUtf8}
use Rattle.std.specs.List.{flat_map, AllByRecursion}
use Rattle.std.specs.Int.{w16, w32, w64, to_be_bytes}
use Rattle.lamport_clock.specs.declared.stamp.Lamport.{Lamport}
use Rattle.lamport_clock.specs.Versions.{Entries, IsVersion}
use Rattle.op_model.specs.declared.operation.Piece.{Piece}
use Rattle.op_model.specs.declared.operation.UndoCount.{UndoCount}
use Rattle.op_model.specs.declared.operation.Operation.{Operation}
use Rattle.op_model.specs.declared.operation.Operation.TheVariants.{Edit, Undo}
use Rattle.op_model.specs.Operations.{stamp_of, version_of, pieces_of, counts_of}
use Rattle.op_model.specs.Choice.{first_of, when}

-- the greatest number of entries, of pieces and of counts, and of the bytes that an edit's texts have together
abbrev pub limit : ℕ
limit = 65536

-- value (4 bytes), replica (2)
abbrev pub stamp : Lamport → List ℕ
stamp t = to_be_bytes w32 t.value ++ to_be_bytes w16 t.replica

-- replica (2), value (4)
abbrev pub entry : ℕ × ℕ → List ℕ
entry e = to_be_bytes w16 e.0 ++ to_be_bytes w32 e.1

-- number of entries (4), entries
abbrev pub version : Entries → List ℕ
version v = to_be_bytes w32 (length v) ++ flat_map entry v

-- length (4), and that many bytes
abbrev pub text : List ℕ → List ℕ
text bytes = to_be_bytes w32 (length bytes) ++ bytes

-- start (8), end (8), text
abbrev pub piece : Piece → List ℕ
piece p = to_be_bytes w64 p.start ++ (to_be_bytes w64 p.end ++ text p.text)

-- number of pieces (4), pieces
abbrev pub pieces : List Piece → List ℕ
pieces ps = to_be_bytes w32 (length ps) ++ flat_map piece ps

-- the edit's stamp (6), count (4)
abbrev pub count : UndoCount → List ℕ
count c = stamp c.edit ++ to_be_bytes w32 c.count

-- number of counts (4), counts
abbrev pub counts : List UndoCount → List ℕ
counts cs = to_be_bytes w32 (length cs) ++ flat_map count cs

-- kind (1), stamp, version, and the pieces of an edit or the counts of an undo
abbrev pub spelling : Operation → List ℕ
spelling (Edit e) = 1 ∷ (stamp e.stamp ++ (version e.version ++ pieces e.pieces))
spelling (Undo u) = 2 ∷ (stamp u.stamp ++ (version u.version ++ counts u.counts))

-- the first sum of the lengths of texts, with so_far before them, that passes the limit
abbrev pub long_sum : ℕ → List Piece → Option ℕ
long_sum so_far [] = None
long_sum so_far (p ∷ ps) =
    if nat_lt limit (so_far + length p.text) then Some (so_far + length p.text) else long_sum (so_far + length p.text) ps

-- the first number of the record that passes the limit: of entries, of pieces, of the texts' bytes so far, of counts
abbrev pub long_number : Operation → Option ℕ
long_number op = first_of (
    when (nat_lt limit (length (version_of op))) (length (version_of op))
    ∷ when (nat_lt limit (length (pieces_of op))) (length (pieces_of op))
    ∷ long_sum 0 (pieces_of op)
    ∷ when (nat_lt limit (length (counts_of op))) (length (counts_of op))
    ∷ [])

-- ---- what every operation in memory has, by the types of its parts

abbrev pub IsStamp : Lamport → Type 0
IsStamp t = (t.value < 2 ^ 32) × (t.replica < 2 ^ 16)

abbrev pub IsPiece : Piece → Type 0
IsPiece p = (p.start < 2 ^ 64) × ((p.end < 2 ^ 64) × IsUtf8 p.text)

abbrev pub IsCount : UndoCount → Type 0
IsCount c = IsStamp c.edit × (c.count < 2 ^ 32)

-- an operation whose numbers fit their fields, and none of whose numbers passes the limit
pub record HasSpelling (op : Operation) : Type 0 where
  pub stamp : IsStamp (stamp_of op)
  pub version : IsVersion (version_of op)
  pub pieces : AllByRecursion IsPiece (pieces_of op)
  pub counts : AllByRecursion IsCount (counts_of op)
  pub short : long_number op ≡ None
