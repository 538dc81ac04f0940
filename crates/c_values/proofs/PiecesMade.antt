-- Pieces that are made one after the other.
use Rattle.std.proofs.Common.{◌≡◌, ℕ, List, [], ◌∷◌, ◌++◌, Result, Ok, Err, refl, sym, ap, append_assoc, drop}
use Rattle.op_model.specs.declared.operation.Piece.{Piece}
use Rattle.c_values.specs.declared.answer.Answer.{Answer}
use Rattle.c_values.specs.declared.pieces.Change.{Change}
use Rattle.c_values.specs.Pieces.{HasText, change_piece, change_text, piece_first, after_text, pieces_from}

-- pieces before others
abbrev pub pieces_first : List Piece → Result (List Piece) Answer → Result (List Piece) Answer
pieces_first ps (Ok qs) = Ok (ps ++ qs)
pieces_first ps (Err a) = Err a

-- one more of them
pub pieces_first-append : (ps : List Piece) → (p : Piece) → (r : Result (List Piece) Answer)
    → pieces_first (ps ++ p ∷ []) r ≡ pieces_first ps (piece_first p r)
pieces_first-append ps p (Ok qs) = ap Ok (append_assoc ps (p ∷ []) qs)
pieces_first-append ps p (Err a) = refl

-- the pieces of the changes that are left, once one more is made
pub pieces_step : (ps : List Piece) → (c : Change) → (cs : List Change) → (bytes text rest : List ℕ) → HasText c bytes text rest
    → pieces_first (ps ++ change_piece c text ∷ []) (pieces_from cs rest) ≡ pieces_first ps (pieces_from (c ∷ cs) bytes)
pieces_step ps c cs bytes text rest has =
    rw (has.after, has.is) (pieces_first-append ps (change_piece c text) (pieces_from cs (drop c.text_len bytes)))

-- none, where the next one has no text
pub pieces_stop : (ps : List Piece) → (c : Change) → (cs : List Change) → (bytes : List ℕ) → (a : Answer) → change_text c bytes ≡ Err a
    → pieces_first ps (pieces_from (c ∷ cs) bytes) ≡ Err a
pieces_stop ps c cs bytes a stops = rw stops refl
