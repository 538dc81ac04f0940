-- How far an unfinished record was looked at: what comes next in it, and that it is unfinished while that is.
use Rattle.std.specs.Prelude.{◌≡◌, ◌≤◌, ◌<◌, ℕ, ◌+◌, Bool, true, false, List, ◌++◌, length, drop, Result, Ok, Err}
use Rattle.op_model.specs.declared.operation.Piece.{Piece}
use Rattle.op_wire.specs.declared.fault.Stop.{Stop}
use Rattle.op_wire.specs.declared.fault.Stop.TheVariants.{Short, Bad}
use Rattle.op_wire.specs.declared.fault.ReadError.{ReadError}
use Rattle.op_wire.specs.declared.fault.ReadError.TheVariants as errors
use Rattle.op_wire.specs.declared.scan.Stage.{Stage}
use Rattle.op_wire.specs.declared.scan.Stage.TheVariants.{Start, Entries, Pieces, Counts}
use Rattle.op_wire.specs.declared.scan.Pause.{Pause}
use Rattle.op_wire.specs.declared.scan.Pause.TheVariants.{Waits, Ready}
use Rattle.op_wire.specs.Reading.{Read, ◌>>=◌, stamp_at, entries_at, amount_at, piece_at, pieces_at, counts_at, all_pieces_at, all_counts_at, record_at}

-- ---- what is read of an element

-- the stamp, and the number of entries
unfoldable pub first_amount_at : List ℕ → Read ℕ
first_amount_at bytes = do
  stamp ← stamp_at bytes
  amount_at stamp.1

-- the bytes of the texts so far, with those of the piece
unfoldable pub sum_at : ℕ → List ℕ → Read ℕ
sum_at so_far bytes = do
  piece ← piece_at so_far bytes
  Ok (so_far + length piece.0.text, piece.1)

abbrev pub whole_piece : ℕ × ℕ → List ℕ → Piece
whole_piece range text = record { start = range.0; end = range.1; text = text }

-- ---- stages

-- the kind of an edit or of an undo
abbrev pub kind : Bool → ℕ
kind false = 1
kind true = 2

-- the stage after the last entry
abbrev pub parts : Bool → ℕ → Stage
parts false n = Pieces n 0
parts true n = Counts n

abbrev pub good : Result (Unit {0}) Stop
good = Ok tt

-- whether what follows the entries is good, or where reading it stops
abbrev pub tail_at : Bool → List ℕ → Result (Unit {0}) Stop
tail_at false bytes = all_pieces_at bytes >>= λ _. good
tail_at true bytes = all_counts_at bytes >>= λ _. good

-- from the stage on, the bytes end inside a field
abbrev pub IsShortAt : Stage → List ℕ → Type 0
IsShortAt Start bytes = record_at bytes ≡ Err Short
IsShortAt (Entries is_undo left least) bytes = (entries_at left least bytes >>= λ v. tail_at is_undo v.1) ≡ Err Short
IsShortAt (Pieces left so_far) bytes = pieces_at left so_far bytes ≡ Err Short
IsShortAt (Counts left) bytes = counts_at left bytes ≡ Err Short

-- the bytes are whole good fields and a rest, at which the next stage is: while that is unfinished, so are these
pub record Leads (stage : Stage) (bytes : List ℕ) (next : Stage) (rest : List ℕ) : Type 0 where
  pub front : List ℕ
  pub parts : bytes ≡ front ++ rest
  pub leads : (after : List ℕ) → IsShortAt next (rest ++ after) → IsShortAt stage (bytes ++ after)

-- why there is no step on
abbrev pub pause : ReadError → Pause
pause errors.OutOfMemory = Ready
pause (errors.Stopped Short) = Waits
pause (errors.Stopped (Bad w n)) = Ready

-- what is known where there is no step on
abbrev pub PauseCause : Pause → Stage → List ℕ → Type 0
PauseCause Waits stage bytes = IsShortAt stage bytes
PauseCause Ready stage bytes = Unit {0}

-- a step on, seen by view, or why there is none
abbrev pub Steps : {X : Type 0} → (X → Stage × List ℕ) → Stage → List ℕ → Result X Pause → Type 0
Steps view stage bytes (Ok x) = Leads stage bytes (view x).0 (view x).1 × (length (view x).1 < length bytes)
Steps view stage bytes (Err p) = PauseCause p stage bytes

-- the bytes before the offset are whole good fields of a record
pub record IsSeen (bytes : List ℕ) (at : ℕ) (stage : Stage) : Type 0 where
  pub within : at ≤ length bytes
  pub seen : Leads Start bytes stage (drop at bytes)
