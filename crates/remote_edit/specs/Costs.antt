-- What placing an edit may cost: the number of fragments that its ranges touch.
use Rattle.std.specs.Prelude.{ℕ, ◌+◌, nat_lt, max, min, Bool, if◌then◌else◌, List, [], ◌∷◌, map}
use Rattle.std.specs.List.{list_any}
use Rattle.op_model.specs.declared.operation.Piece.{Piece}
use Rattle.fragments.specs.declared.fragment.Fragment.{Fragment}
use Rattle.remote_edit.specs.Offsets.{piece_in}

-- one of the n cells after the first k lies in the range of a piece
abbrev pub is_met : ℕ → ℕ → Piece → Bool
is_met k n p = nat_lt (max k p.start) (min (k + n) p.end)

-- the number of fragments that hold a cell of a range, where k cells come before them
abbrev pub touch_count_behind : ℕ → List Piece → List Fragment → ℕ
touch_count_behind k ps [] = 0
touch_count_behind k ps (f ∷ fs) = (if list_any (is_met k f.len) ps then 1 else 0)
    + touch_count_behind (k + f.len) ps fs

-- the number of fragments that hold a cell of a range of the changes, which count shown cells
abbrev pub touch_count : List Fragment → List Piece → ℕ
touch_count fs changes = touch_count_behind 0 (map (piece_in fs) changes) fs
