-- The state after a change within one leaf that is made in place.
use Rattle.std.specs.Prelude.{◌≡◌, ℕ, ◌+◌, ◌^◌, ◌≤◌, List, [], ◌∷◌, ◌++◌, length, Some, Result, Ok, Err, Vec}
use Rattle.std.specs.Global.{Global}
use Rattle.sum_tree.specs.Seen.{Seen}
use Rattle.std.specs.List.{All}
use Rattle.sum_tree.specs.Shape.{join_items, content_items, content_width, IsChild}
use Rattle.sum_tree.specs.declared.tree.Content.{Content}
use Rattle.sum_tree.specs.Grown.{IsSplit}
use Rattle.sum_tree.specs.declared.here.Placing.{Placing}
use Rattle.sum_tree.specs.declared.here.Placing.TheVariants.{Done, Split, Back}

-- a node of height h with this content, a leaf of these items, and a node of height h with these children
abbrev pub content_seen : {T S : Type 0} → ℕ → Content T S → Seen T
content_seen h c = record { items = content_items c; height = h; width = content_width c }

abbrev pub leaf_seen : {T : Type 0} → List T → Seen T
leaf_seen xs = record { items = xs; height = 0; width = length xs }

abbrev pub inner_seen : {T : Type 0} → ℕ → List (Seen T) → Seen T
inner_seen h ts = record { items = join_items ts; height = h; width = length ts }

-- what a node of height h requires of its children together
abbrev pub AreChildren : {T : Type 0} → ℕ → List (Seen T) → Type 0
AreChildren h ts = All (IsChild h) ts × (2 ≤ length ts) × (length ts ≤ 12)

-- a tree of the same height has the items xs, and at least w entries
pub record IsPlaced {T : Type 0} (w : ℕ) (xs : List T) (old new : Seen T) : Type 0 where
  pub items : new.items ≡ xs
  pub height : new.height ≡ old.height
  pub wide : w ≤ new.width
  pub narrow : new.width ≤ 12
  pub many : 6 ≤ new.width → 6 ^ (new.height + 1) ≤ length new.items

-- either that is done, or the tree is as it was and a and b are to replace it (the result holds these sums in both
-- cases); or the tree is as it was and the new entries ys are handed back
abbrev pub IsPlacing : {S T : Type 0} → List S → ℕ → List T → List T → Seen T → Seen T
    → Placing (Vec S Global) (Vec T Global) (Seen T) → Type 0
IsPlacing ss w xs ys old new (Done sums) = IsPlaced w xs old new × (sums.items ≡ ss)
IsPlacing ss w xs ys old new (Split a b sums) = (new ≡ old) × IsSplit old.height 0 xs a (Some b) × (sums.items ≡ ss)
IsPlacing ss w xs ys old new (Back es) = (new ≡ old) × (es.items ≡ ys)

abbrev pub IsPlacingOr : {S T E : Type 0} → List S → ℕ → List T → List T → Seen T → Seen T
    → Result (Placing (Vec S Global) (Vec T Global) (Seen T)) E → Type 0
IsPlacingOr ss w xs ys old new (Ok p) = IsPlacing ss w xs ys old new p
IsPlacingOr ss w xs ys old new (Err e) = new ≡ old

-- the last of the sums is removed; if the change is made, it and the new length n are written, otherwise all is as it
-- was
abbrev pub IsNoted : {S E N : Type 0} → ℕ → ℕ → ℕ → S → S → Placing (Vec S Global) E N
    → Placing (Vec S Global) E N → Type 0
IsNoted {S} n len len' s s' (Done sums) q = (xs : List S) (x : S) → sums.items ≡ xs ++ x ∷ []
    → (len' ≡ n) × (s' ≡ x) × ((ss : Vec S Global) × (q ≡ Done ss) × (ss.items ≡ xs))
IsNoted {S} n len len' s s' (Split a b sums) q = (len' ≡ len) × (s' ≡ s)
    × ((xs : List S) (x : S) → sums.items ≡ xs ++ x ∷ [] → (ss : Vec S Global) × (q ≡ Split a b ss) × (ss.items ≡ xs))
IsNoted n len len' s s' (Back es) q = (len' ≡ len) × (s' ≡ s) × (q ≡ Back es)
