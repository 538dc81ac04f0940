-- The pieces of changes whose new texts stand in a row.
use Rattle.std.specs.Prelude.{◌≡◌, ℕ, ◌≤◌, List, [], ◌∷◌, ◌++◌, length, take, drop, nat_lt, true, if◌then◌else◌, Result, Ok, Err}
use Rattle.std.specs.Str.{is_utf8}
use Rattle.op_model.specs.declared.operation.Piece.{Piece}
use Rattle.c_values.specs.declared.answer.Answer.{Answer}
use Rattle.c_values.specs.declared.answer.Code.TheVariants.{OutOfRange, NotUtf8}
use Rattle.c_values.specs.declared.pieces.Change.{Change}
use Rattle.c_values.specs.Answers.{bare}

-- the piece of a change, with its new text
abbrev pub change_piece : Change → List ℕ → Piece
change_piece c text = record { start = c.start; end = c.end; text = text }

-- the new text of a change, which the bytes begin with, or why they do not
abbrev pub change_text : Change → List ℕ → Result (List ℕ) Answer
change_text c bytes =
    if nat_lt (length bytes) c.text_len then Err (bare OutOfRange)
    else if is_utf8 (take c.text_len bytes) then Ok (take c.text_len bytes) else Err (bare NotUtf8)

-- the bytes begin with the new text of a change, and then come others
pub record HasText (c : Change) (bytes text rest : List ℕ) : Type 0 where
  pub is : change_text c bytes ≡ Ok text
  pub after : rest ≡ drop c.text_len bytes

-- a piece before others
abbrev pub piece_first : Piece → Result (List Piece) Answer → Result (List Piece) Answer
piece_first p (Ok ps) = Ok (p ∷ ps)
piece_first p (Err a) = Err a

-- what follows a new text, or why there is none
abbrev pub after_text : Change → Result (List ℕ) Answer → Result (List Piece) Answer → Result (List Piece) Answer
after_text c (Ok text) others = piece_first (change_piece c text) others
after_text c (Err a) others = Err a

-- the pieces of the changes, whose new texts are the bytes, or why they are none
abbrev pub pieces_from : List Change → List ℕ → Result (List Piece) Answer
pieces_from [] [] = Ok []
pieces_from [] (b ∷ bytes) = Err (bare OutOfRange)
pieces_from (c ∷ cs) bytes = after_text c (change_text c bytes) (pieces_from cs (drop c.text_len bytes))
