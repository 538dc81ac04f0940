-- What contracts see of a cursor.
use Rattle.std.specs.Prelude.{ℕ, List}

-- the tree's items and height, the index of the item that it is on, and where the first starts
pub record CursorState (T D : Type 0) : Type 0 where
  pub items : List T
  pub height : ℕ
  pub index : ℕ
  pub from : D

-- the tree's items, where the first starts, the filter, the index of the item that was given last, and that of the
-- first that was not looked at yet
pub record Filtering (T D K : Type 0) : Type 0 where
  pub items : List T
  pub from : D
  pub keep : K
  pub given : ℕ
  pub next : ℕ
