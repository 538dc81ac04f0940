-- Cells that were shown then and are shown now; cells with ranges replaced.
use Rattle.std.specs.Prelude.{ℕ, zero, suc, ◌+◌, List, [], ◌∷◌, ◌++◌, length, drop, slice_range}
use Rattle.op_model.specs.declared.operation.Piece.{Piece}
use Rattle.op_model.specs.declared.operation.Operation.{Operation}
use Rattle.op_model.specs.Operations.{stamp_of}
use Rattle.op_model.specs.Cells.{Cell}
use Rattle.op_model.specs.Since.{Fate}
use Rattle.op_model.specs.Since.Fate.{Kept, Gone, New, Never}

-- the number of cells that were shown then, and of those that are shown now
abbrev pub number_then : List Fate → ℕ
number_then [] = 0
number_then (Kept ∷ s) = suc (number_then s)
number_then (Gone ∷ s) = suc (number_then s)
number_then (New ∷ s) = number_then s
number_then (Never ∷ s) = number_then s

abbrev pub number_now : List Fate → ℕ
number_now [] = 0
number_now (Kept ∷ s) = suc (number_now s)
number_now (Gone ∷ s) = number_now s
number_now (New ∷ s) = suc (number_now s)
number_now (Never ∷ s) = number_now s

-- the cells of an edit's texts, from number k on
abbrev pub cells_from : Operation → ℕ → ℕ → List Cell
cells_from op k zero = []
cells_from op k (suc n) = record { stamp = stamp_of op; k = k } ∷ cells_from op (suc k) n

-- cells from a place on, with those at each range replaced by the next of the edit's own
abbrev pub replaced_cells : Operation → ℕ → ℕ → List Piece → List Cell → List Cell
replaced_cells op at k [] cs = drop at cs
replaced_cells op at k (p ∷ ps) cs = slice_range cs at p.start
    ++ (cells_from op k (length p.text) ++ replaced_cells op p.end (k + length p.text) ps cs)
