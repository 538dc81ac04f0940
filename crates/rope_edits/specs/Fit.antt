-- For private clauses: pieces that meet no fault against a text.
use Rattle.std.specs.Prelude.{ℕ, ◌≤◌, List, [], ◌∷◌}
use Rattle.std.specs.Str.{IsCharBoundary}
use Rattle.op_model.specs.declared.operation.Piece.{Piece}

-- from a place on, the pieces stand in order on boundaries of the text
abbrev pub AreFit : ℕ → List Piece → List ℕ → Type 0
AreFit at [] text = IsCharBoundary text at
AreFit at (p ∷ ps) text =
    IsCharBoundary text at × (at ≤ p.start)
    × IsCharBoundary text p.start × (p.start ≤ p.end)
    × AreFit p.end ps text
