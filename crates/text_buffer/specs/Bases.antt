-- The text of a base.
use Rattle.std.specs.Prelude.{ℕ, List, [], ◌∷◌}
use Rattle.op_model.specs.declared.operation.Piece.{Piece}
use Rattle.op_model.specs.declared.operation.Operation.{Operation}
use Rattle.op_model.specs.Operations.{pieces_of}

-- the text of the first piece
abbrev pub first_text : List Piece → List ℕ
first_text [] = []
first_text (p ∷ ps) = p.text

-- the text of the first operation's first piece, which is that of a base
abbrev pub opening_text : List Operation → List ℕ
opening_text [] = []
opening_text (op ∷ h) = first_text (pieces_of op)
