-- From offsets among the shown cells of fragments to offsets among all cells.
use Rattle.std.specs.Prelude.{ℕ, suc, ◌+◌, ◌-◌, ◌≤◌, ◌==◌, nat_lt, if◌then◌else◌, List, [], ◌∷◌}
use Rattle.op_model.specs.declared.operation.Piece.{Piece}
use Rattle.fragments.specs.declared.fragment.Fragment.{Fragment}
use Rattle.fragments.specs.Laws.{shown_len}

-- the number of all cells before shown cell o, or of all cells if there is none
abbrev pub full_in : List Fragment → ℕ → ℕ
full_in [] o = 0
full_in (f ∷ fs) o = if f.visible
    then (if nat_lt o f.len then o else f.len + full_in fs (o - f.len)) else f.len + full_in fs o

-- a piece whose range counts shown cells, with a range that counts all: an empty range stays empty, any other ends
-- after its last shown cell
abbrev pub piece_in : List Fragment → Piece → Piece
piece_in fs p = record {
  start = full_in fs p.start;
  end = if p.start == p.end then full_in fs p.start else suc (full_in fs (p.end - 1));
  text = p.text;
}

-- the range of a piece lies within the shown cells
pub record IsInText (fs : List Fragment) (p : Piece) : Type 0 where
  pub forward : p.start ≤ p.end
  pub within : p.end ≤ shown_len fs
