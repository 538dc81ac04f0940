-- What a walk keeps.
use Rattle.std.specs.Prelude.{◌≡◌, ◌⊎◌, ℕ, ◌+◌, ◌<◌, ◌≤◌, Bool, Option, List, length, take, drop}
use Rattle.sum_tree.specs.Laws.{fold}
use Rattle.tree_cursor.specs.Places.{place_behind, walk_count}
use Rattle.tree_cursor.specs.Rest.{Rest}

-- A walk over the items whole, which begin at the place from, has come to an index, and will halt at the index goal.
pub record IsWalking {P S T : Type 0} (moved : P → S → Option P) (fits : P → S → Type 0) (empty : S)
    (op : S → S → S) (sum_of : T → S) (halts : S → P → ℕ → Bool) (whole : List T) (from : P)
    (left : List T) (at : P) (index goal : ℕ) : Type 0 where
  pub within : index ≤ length whole
  pub left_is : left ≡ drop index whole
  pub starts : at ≡ place_behind moved sum_of from (take index whole)
  pub room : fits at (fold empty op sum_of left)
  pub sought : index + walk_count moved sum_of halts at index left ≡ goal

-- With so many steps, and the looks that are left, it stays within the most; and it halts in the innermost level, or no
-- other is left.
abbrev pub IsDescending : {T : Type 0} → Rest T → ℕ → ℕ → ℕ → ℕ → Type 0
IsDescending path steps most index goal = (steps + path.looks ≤ most)
    × ((path.items ≡ path.inner) ⊎ (goal < index + length path.inner))
