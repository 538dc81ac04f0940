-- The cells that facts are of.
use Rattle.std.proofs.Common.{◌≡◌, List, [], ◌∷◌, map, refl, ap}
use Rattle.op_model.specs.Histories.{History}
use Rattle.op_model.specs.Cells.{Cell}
use Rattle.op_model.specs.Facts.{Fact, fact}

abbrev pub cells_in : List Fact → List Cell
cells_in s = map (λ (q : Fact). q.cell) s

-- the facts of cells are of these cells
pub told_cells : (h : History) (s : List Cell) → cells_in (map (fact h) s) ≡ s
told_cells h [] = refl
told_cells h (c ∷ s) = ap (λ z. c ∷ z) (told_cells h s)
