-- What an edit of a buffer may cost.
use Rattle.std.specs.Prelude.{ℕ, ◌+◌, ◌*◌, ◌^◌, ◌<◌, ◌≤◌, List, length}
use Rattle.op_model.specs.declared.operation.Piece.{Piece}
use Rattle.op_model.specs.Histories.{History}
use Rattle.remote_edit.specs.Costs.{touch_count}
use Rattle.remote_edit.specs.Fragments.{fragments_of}

-- an edit of h by changes may make n nodes of the tree with the fragments of h: at most 256 on each level for each change, for each
-- fragment that holds a byte of a range, and once more
pub record IsEditCost (h : History) (changes : List Piece) (n : ℕ) : Type 0 where
  pub height : ℕ
  -- a root has two children or more, and any other node six
  pub tall : 0 < height → 2 * 6 ^ height ≤ length (fragments_of h)
  pub cost : n ≤ 256 * (length changes + touch_count (fragments_of h) changes + 1) * (height + 1)
