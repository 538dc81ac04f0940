-- Where a walk stands.
use Rattle.std.specs.Prelude.{◌≡◌, ℕ, ◌+◌, ◌≤◌, Bool, cond, Option, Some, None, List, [], ◌∷◌, length, take, drop}
use Rattle.sum_tree.specs.Laws.{fold}
use Rattle.tree_cursor.specs.Places.{place_behind}
use denote.Bor.{Bor}

-- the place behind a sum that is gone over whole, and None where the walk halts there or has to look inside
abbrev pub place_over : {P : Type 0} → (P → Bool) → Option P → Option P
place_over halts None = None
place_over halts (Some q) = cond (halts q) None (Some q)

-- the item that the walk is on, and those that follow
abbrev pub ahead : {T : Type 0} → Option (Bor T) → List T → List T
ahead None xs = []
ahead (Some e) xs = e.now ∷ xs

-- the index behind the item, if there is one
abbrev pub index_behind : {X : Type 0} → Option X → ℕ → ℕ
index_behind None i = i
index_behind (Some x) i = i + 1

-- A walk over the items whole, which begin at the place from, stands at an index: before it are so many items, on it
-- stands the item, if there is one, and rest is left behind that.
pub record IsAt {P S T : Type 0} (moved : P → S → Option P) (fits : P → S → Type 0) (empty : S)
    (op : S → S → S) (sum_of : T → S) (whole : List T) (from : P) (rest : List T)
    (item : Option (Bor T)) (start end : P) (index : ℕ) : Type 0 where
  pub within : index ≤ length whole
  pub here : ahead item rest ≡ drop index whole
  pub behind : rest ≡ drop (index + 1) whole
  pub starts : start ≡ place_behind moved sum_of from (take index whole)
  pub ends : end ≡ place_behind moved sum_of from (take (index + 1) whole)
  pub room : fits end (fold empty op sum_of rest)
