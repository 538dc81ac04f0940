-- What a change in place leaves.
use Rattle.std.specs.Prelude.{◌≡◌, ℕ, ◌≤◌, List, [], ◌∷◌, ◌++◌, length, Option, Some, None, Result, Ok, Err}
use Rattle.std.specs.List.{All}
use Rattle.sum_tree.specs.Seen.{Seen}
use Rattle.sum_tree.specs.Shape.{IsChild, join_items}

-- the item is appended and the height is the same; or the item is handed back and the tree is as it was
abbrev pub IsPushedOr : {T : Type 0} → Seen T → Seen T → T → Option T → Type 0
IsPushedOr old new x None = (new.items ≡ old.items ++ x ∷ []) × (new.height ≡ old.height)
    × (old.width ≤ new.width) × (new.width ≤ 12)
IsPushedOr old new x (Some y) = (new ≡ old) × (y ≡ x)

abbrev pub IsPushed : {T E : Type 0} → Seen T → Seen T → T → Result (Option T) E → Type 0
IsPushed old new x (Ok o) = IsPushedOr old new x o
IsPushed old new x (Err e) = new ≡ old

-- the item is appended to those of the old children of a node of height h; or it is handed back and the children are as
-- they were
abbrev pub IsPushedBesideOr : {T : Type 0} → ℕ → List (Seen T) → List (Seen T) → T → Option T → Type 0
IsPushedBesideOr h old new x None = (join_items new ≡ join_items old ++ x ∷ [])
    × All (IsChild h) new × (length old ≤ length new) × (length new ≤ 12)
IsPushedBesideOr h old new x (Some y) = (new ≡ old) × (y ≡ x)

abbrev pub IsPushedBeside : {T E : Type 0} → ℕ → List (Seen T) → List (Seen T) → T → Result (Option T) E → Type 0
IsPushedBeside h old new x (Ok o) = IsPushedBesideOr h old new x o
IsPushedBeside h old new x (Err e) = new ≡ old

-- where the item is appended, the continuation is done; where it is handed back, the continuation is as it was
abbrev pub IsContinuationOr : {K T : Type 0} → (K → K → Type 0) → K → K → Option T → Type 0
IsContinuationOr done k l None = done k l
IsContinuationOr done k l (Some y) = l ≡ k

abbrev pub IsContinuation : {K T E : Type 0} → (K → K → Type 0) → (K → K → Type 0) → K → K → Result (Option T) E → Type 0
IsContinuation done kept k l (Ok o) = IsContinuationOr done k l o
IsContinuation done kept k l (Err e) = kept k l
