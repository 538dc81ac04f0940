-- What replaces a tree after a change: one tree, or two of the same height.
use Rattle.std.specs.Prelude.{◌≡◌, ℕ, ◌+◌, ◌^◌, ◌≤◌, List, [], ◌∷◌, ◌++◌, length, take, drop, Option, Some, None}
use Rattle.sum_tree.specs.Seen.{Seen}
use Rattle.sum_tree.specs.Shape.{IsChild}

-- a, and b if there is one, have height h, and together the items xs; if there is no b, a has at least w entries
abbrev pub IsSplit : {T : Type 0} → ℕ → ℕ → List T → Seen T → Option (Seen T) → Type 0
IsSplit h w xs a None = (a.items ≡ xs) × (a.height ≡ h) × (w ≤ a.width) × (a.width ≤ 12)
    × (6 ≤ a.width → 6 ^ (a.height + 1) ≤ length a.items)
IsSplit h w xs a (Some b) = (a.items ++ b.items ≡ xs) × IsChild (h + 1) a × IsChild (h + 1) b

-- a, followed by b if there is one
abbrev pub pair_list : {X : Type 0} → X → Option X → List X
pair_list a None = a ∷ []
pair_list a (Some b) = a ∷ b ∷ []

-- the list with its elements in i..j replaced by these
abbrev pub with_run : {X : Type 0} → List X → ℕ → ℕ → X → Option X → List X
with_run xs i j a b = (take i xs ++ pair_list a b) ++ drop j xs

-- the list with element k replaced by these
abbrev pub with_pair : {X : Type 0} → List X → ℕ → X → Option X → List X
with_pair xs k a b = with_run xs k (k + 1) a b
