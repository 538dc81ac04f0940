-- Moves on the way: what they have done when a walk has put out some fragments and has the others ahead of it.
use Rattle.std.specs.Prelude.{◌≡◌, ℕ, zero, suc, ◌+◌, ◌≤◌, Bool, not, if◌then◌else◌, List, [], ◌∷◌, ◌++◌, map, drop, length, slice_index}
use Rattle.std.specs.List.{AllByRecursion, filter}
use Rattle.std.specs.Str.{IsUtf8}
use Rattle.lamport_clock.specs.declared.stamp.Lamport.{Lamport}
use Rattle.op_model.specs.declared.operation.Operation.{Operation}
use Rattle.op_model.specs.Operations.{stamp_of, pieces_of}
use Rattle.op_model.specs.Histories.{History}
use Rattle.op_model.specs.Cells.{Cell}
use Rattle.op_model.specs.Shown.{text, hidden_text, texts}
use Rattle.op_model.specs.Facts.{Fact}
use Rattle.op_model.specs.Walked.{IsWhole, facts_of}
use Rattle.fragments.specs.declared.fragment.Fragment.{Fragment}
use Rattle.fragments.specs.Stand.{runs}
use Rattle.remote_edit.specs.declared.moves.Move.{Move}
use Rattle.remote_edit.specs.declared.moves.Move.TheVariants.{Visible, Hidden, Hide, Show}
use Rattle.remote_edit.specs.Moves.{Texts, texts_of, after_moves, TakeTexts, HaveMoved}

-- moves take the shown and the hidden text of h, with the new text of op, to those of the history with op
abbrev pub AreMovesOf : List Move → History → Operation → Type 0
AreMovesOf ms h op = after_moves ms (text h) (hidden_text h) (texts (pieces_of op))
    ≡ texts_of (text (h ++ op ∷ [])) (hidden_text (h ++ op ∷ []))

-- if the fragments fs begin and end between characters, so do the fragments gs of h with op, and the moves take whole
-- characters
abbrev pub KeepCharacters : List Fragment → List Fragment → List Move → History → Operation → Type 0
KeepCharacters fs gs ms h op = AllByRecursion (IsWhole h) (runs fs)
    → AllByRecursion (IsWhole (h ++ op ∷ [])) (runs gs) × TakeTexts ms (text h) (hidden_text h) (texts (pieces_of op))

-- the move of n bytes, by whether they were shown before and are shown now
abbrev pub move_for : Bool → Bool → ℕ → Move
move_for was now n = if was then (if now then Visible n else Hide n) else (if now then Show n else Hidden n)

-- the bytes of the shown cells, and of the hidden ones, where `byte` gives the byte of each cell
abbrev pub shown_bytes : (Cell → ℕ) → List Fragment → List ℕ
shown_bytes byte fs = map (λ (q : Fact). byte q.cell) (filter (λ (q : Fact). q.visible) (facts_of (runs fs)))

abbrev pub hidden_bytes : (Cell → ℕ) → List Fragment → List ℕ
hidden_bytes byte fs = map (λ (q : Fact). byte q.cell) (filter (λ (q : Fact). not q.visible) (facts_of (runs fs)))

abbrev pub both_bytes : (Cell → ℕ) → List Fragment → Texts
both_bytes byte fs = texts_of (shown_bytes byte fs) (hidden_bytes byte fs)

-- the number of hidden cells
abbrev pub hidden_len : List Fragment → ℕ
hidden_len [] = 0
hidden_len (f ∷ fs) = if f.visible then hidden_len fs else f.len + hidden_len fs

-- the bytes of n cells of edit t from k on
abbrev pub cell_bytes : (Cell → ℕ) → Lamport → ℕ → ℕ → List ℕ
cell_bytes byte t k zero = []
cell_bytes byte t k (suc n) = byte (record { stamp = t; k = k }) ∷ cell_bytes byte t (suc k) n

-- the bytes of a fragment are UTF-8
abbrev pub IsText : (Cell → ℕ) → Fragment → Type 0
IsText byte f = IsUtf8 (cell_bytes byte f.stamp f.offset f.len)

-- from the texts s and h and the new text n of edit t, the moves ms have put out the bytes of the fragments pre, as
-- whole characters if the bytes of each are UTF-8; later moves find the bytes of rest, and those of the new text from k
-- on
pub record Carried (byte : Cell → ℕ) (t : Lamport) (s h n : List ℕ) (ms : List Move)
    (pre rest : List Fragment) (k : ℕ) : Type 0 where
  pub moves : HaveMoved s h n ms (both_bytes byte pre) (both_bytes byte rest) (drop k n)
  pub text : (j : ℕ) → byte (record { stamp = t; k = j }) ≡ slice_index n j
  pub characters : AllByRecursion (IsText byte) pre → TakeTexts ms s h n

-- moves that advance as a walk over fragments does, inserting new cells of edit t
abbrev pub CarryOn : Lamport → List Move → List Fragment → List Fragment → ℕ → List Move
    → List Fragment → List Fragment → ℕ → Type 0
CarryOn t ms pre rest k ms2 pre2 rest2 k2 = (byte : Cell → ℕ) → (s h n : List ℕ) → k2 ≤ length n
    → Carried byte t s h n ms pre rest k → Carried byte t s h n ms2 pre2 rest2 k2

-- moves that carry the bytes of all fragments fs to gs, where op inserts all its new cells
abbrev pub Carry : List Move → Operation → List Fragment → List Fragment → Type 0
Carry ms op fs gs = CarryOn (stamp_of op) [] [] fs 0 ms gs [] (length (texts (pieces_of op)))
