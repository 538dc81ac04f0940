-- Laws of what is seen.
use Rattle.std.specs.Prelude.{◌≡◌, ℕ, Some, slice_get}
use Rattle.op_model.specs.Histories.{History}
use Rattle.op_model.specs.Cells.{Cell, seq, cells}
use Rattle.op_model.specs.Shown.{full, new_bytes}
use Rattle.op_model.specs.Edits.{is_boundary}
use Rattle.op_model.specs.Lawful.{Lawful}

-- a character begins with a cell among all bytes where one begins with it among the new bytes of its edit
abbrev pub CellsBeginAsInTheirEdits : Type 0
CellsBeginAsInTheirEdits = (h : History) → (i : ℕ) → (c : Cell) → Lawful h → slice_get (cells (seq h)) i ≡ Some c
    → is_boundary (full h) i ≡ is_boundary (new_bytes h c.stamp) c.k
