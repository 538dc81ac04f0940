-- Reading a record from left to right, field by field, up to the first faulty field, or to where the bytes end inside one.
-- Where reading stops at a faulty field, the stop has its word and how many bytes there are from the field on.
use Rattle.std.specs.Prelude.{◌≡◌, ℕ, zero, suc, ◌+◌, ◌<◌, Bool, List, [], ◌∷◌, length, take, drop, slice_index_or, Result, Ok, Err, nat_lt, ◌==◌, if◌then◌else◌}
use Rattle.std.specs.Int.{Width, w16, w32, w64, byte_len, from_be_bytes}
use Rattle.std.specs.Str.{is_utf8}
use Rattle.lamport_clock.specs.declared.stamp.Lamport.{Lamport}
use Rattle.lamport_clock.specs.Versions.{Entries}
use Rattle.op_model.specs.declared.operation.Piece.{Piece}
use Rattle.op_model.specs.declared.operation.UndoCount.{UndoCount}
use Rattle.op_model.specs.declared.operation.Operation.{Operation}
use Rattle.op_model.specs.declared.operation.Operation.TheVariants.{Edit, Undo}
use Rattle.op_wire.specs.declared.fault.Word.{Word}
use Rattle.op_wire.specs.declared.fault.Word.TheVariants.{Kind, Order, Zero, Long, Utf8}
use Rattle.op_wire.specs.declared.fault.Stop.{Stop}
use Rattle.op_wire.specs.declared.fault.Stop.TheVariants.{Short, Bad}
use Rattle.op_wire.specs.declared.fault.ReadError.{ReadError}
use Rattle.op_wire.specs.declared.fault.ReadError.TheVariants as errors
use Rattle.op_wire.specs.Spelling.{limit}

-- numbers that are bytes
abbrev pub IsBytes : List ℕ → Type 0
IsBytes bytes = (i : ℕ) → slice_index_or bytes i 0 < 256

-- what stands at the front, with the bytes after it, or where reading stops
abbrev pub Read : Type 0 → Type 0
Read A = Result (A × List ℕ) Stop

infixl 10 ◌>>=◌
abbrev pub ◌>>=◌ : {A B : Type 0} → Result A Stop → (A → Result B Stop) → Result B Stop
(Ok x) >>= f = f x
(Err e) >>= f = Err e

-- what a function returned, seen by view, is what reading gives, unless an allocation failed
abbrev pub Fails : {Y : Type 0} → ReadError → Result Y Stop → Type 0
Fails errors.OutOfMemory read = Unit {0}
Fails (errors.Stopped s) read = read ≡ Err s

abbrev pub Gives : {X Y : Type 0} → (X → Y) → Result X ReadError → Result Y Stop → Type 0
Gives view (Ok x) read = read ≡ Ok (view x)
Gives view (Err e) read = Fails e read

-- a number of a width
abbrev pub number_at : Width → List ℕ → Read ℕ
number_at w bytes =
    if nat_lt (length bytes) (byte_len w) then Err Short
    else Ok (from_be_bytes w (take (byte_len w) bytes), drop (byte_len w) bytes)

-- a number that is faulty where the test says so
abbrev pub refused : (ℕ → Bool) → Word → List ℕ → ℕ × List ℕ → Read ℕ
refused test word bytes n = if test n.0 then Err (Bad word (length bytes)) else Ok n

unfoldable pub checked_at : Width → (ℕ → Bool) → Word → List ℕ → Read ℕ
checked_at w test word bytes = number_at w bytes >>= refused test word bytes

unfoldable pub stamp_at : List ℕ → Read Lamport
stamp_at bytes = do
  value ← number_at w32 bytes
  replica ← number_at w16 value.1
  Ok (record { value = value.0; replica = replica.0 }, replica.1)

-- an entry, whose replica is at least this one
unfoldable pub entry_at : ℕ → List ℕ → Read (ℕ × ℕ)
entry_at least bytes = do
  replica ← checked_at w16 (λ r. nat_lt r least) Order bytes
  value ← checked_at w32 (λ v. v == 0) Zero replica.1
  Ok ((replica.0, value.0), value.1)

unfoldable pub entries_at : ℕ → ℕ → List ℕ → Read Entries
entries_at zero least bytes = Ok ([], bytes)
entries_at (suc n) least bytes = do
  first ← entry_at least bytes
  others ← entries_at n (first.0.0 + 1) first.1
  Ok (first.0 ∷ others.0, others.1)

-- a number of entries, of pieces or of counts
abbrev pub amount_at : List ℕ → Read ℕ
amount_at bytes = checked_at w32 (nat_lt limit) Long bytes

unfoldable pub version_at : List ℕ → Read Entries
version_at bytes = do
  n ← amount_at bytes
  entries_at n.0 0 n.1

-- n bytes that are UTF-8
unfoldable pub string_at : ℕ → List ℕ → Read (List ℕ)
string_at n bytes =
    if nat_lt (length bytes) n then Err Short
    else if is_utf8 (take n bytes) then Ok (take n bytes, drop n bytes) else Err (Bad Utf8 (length bytes))

-- a text, after texts of so_far bytes together
unfoldable pub text_at : ℕ → List ℕ → Read (List ℕ)
text_at so_far bytes = do
  n ← checked_at w32 (λ n. nat_lt limit (so_far + n)) Long bytes
  string_at n.0 n.1

unfoldable pub range_at : List ℕ → Read (ℕ × ℕ)
range_at bytes = do
  start ← number_at w64 bytes
  end ← number_at w64 start.1
  Ok ((start.0, end.0), end.1)

unfoldable pub piece_at : ℕ → List ℕ → Read Piece
piece_at so_far bytes = do
  range ← range_at bytes
  text ← text_at so_far range.1
  Ok (record { start = range.0.0; end = range.0.1; text = text.0 }, text.1)

unfoldable pub pieces_at : ℕ → ℕ → List ℕ → Read (List Piece)
pieces_at zero so_far bytes = Ok ([], bytes)
pieces_at (suc n) so_far bytes = do
  first ← piece_at so_far bytes
  others ← pieces_at n (so_far + length first.0.text) first.1
  Ok (first.0 ∷ others.0, others.1)

unfoldable pub count_at : List ℕ → Read UndoCount
count_at bytes = do
  edit ← stamp_at bytes
  count ← number_at w32 edit.1
  Ok (record { edit = edit.0; count = count.0 }, count.1)

unfoldable pub counts_at : ℕ → List ℕ → Read (List UndoCount)
counts_at zero bytes = Ok ([], bytes)
counts_at (suc n) bytes = do
  first ← count_at bytes
  others ← counts_at n first.1
  Ok (first.0 ∷ others.0, others.1)

unfoldable pub all_pieces_at : List ℕ → Read (List Piece)
all_pieces_at bytes = do
  n ← amount_at bytes
  pieces_at n.0 0 n.1

unfoldable pub all_counts_at : List ℕ → Read (List UndoCount)
all_counts_at bytes = do
  n ← amount_at bytes
  counts_at n.0 n.1

-- stamp and version, with which the records of both kinds go on after the kind
unfoldable pub head_at : List ℕ → Read (Lamport × Entries)
head_at bytes = do
  stamp ← stamp_at bytes
  version ← version_at stamp.1
  Ok ((stamp.0, version.0), version.1)

unfoldable pub edit_at : List ℕ → Read Operation
edit_at bytes = do
  head ← head_at bytes
  pieces ← all_pieces_at head.1
  Ok (Edit (record { stamp = head.0.0; version = head.0.1; pieces = pieces.0 }), pieces.1)

unfoldable pub undo_at : List ℕ → Read Operation
undo_at bytes = do
  head ← head_at bytes
  counts ← all_counts_at head.1
  Ok (Undo (record { stamp = head.0.0; version = head.0.1; counts = counts.0 }), counts.1)

-- the operation whose record the bytes begin with
unfoldable pub record_at : List ℕ → Read Operation
record_at [] = Err Short
record_at (zero ∷ bytes) = Err (Bad Kind (suc (length bytes)))
record_at (suc zero ∷ bytes) = edit_at bytes
record_at (suc (suc zero) ∷ bytes) = undo_at bytes
record_at (suc (suc (suc k)) ∷ bytes) = Err (Bad Kind (suc (length bytes)))
