-- The nodes above a leaf after a change within it.
use Rattle.std.specs.Prelude.{◌≡◌, ℕ, ◌+◌, ◌<◌, ◌^◌, ◌≤◌, List, ◌++◌, length, take, drop, get_or, Option, Some, None, Vec, ◌⊎◌}
use Rattle.std.specs.Global.{Global}
use Rattle.sum_tree.specs.Seen.{Seen}
use Rattle.sum_tree.specs.Shape.{IsChild, join_items}
use Rattle.sum_tree.specs.declared.splice.Splicing.{Splicing}
use Rattle.sum_tree.specs.declared.splice.Splicing.TheVariants.{Done, Back}

-- the list with its elements in i..j replaced by ys
abbrev pub splice_list : {X : Type 0} → ℕ → ℕ → List X → List X → List X
splice_list i j ys xs = (take i xs ++ ys) ++ drop j xs

-- a, and b if there is one, have the height of a child of a node of height h; if there is no b, a may be narrow
abbrev pub IsPiece : {T : Type 0} → ℕ → Seen T → Option (Seen T) → Type 0
IsPiece h a None = (a.height + 1 ≡ h) × (a.width ≤ 12) × (6 ≤ a.width → 6 ^ (a.height + 1) ≤ length a.items)
IsPiece h a (Some b) = IsChild h a × IsChild h b

-- a, and b if there is one, have together the items xs and replace a node of height h with w entries; if there is no b,
-- a may be narrow, and lower if w is 2
abbrev pub IsSpliced : {T : Type 0} → ℕ → ℕ → List T → Seen T → Option (Seen T) → Type 0
IsSpliced h w xs a None = (a.items ≡ xs) × (3 ≤ w → a.height ≡ h) × (a.width ≤ 12)
    × (6 ≤ a.width → 6 ^ (a.height + 1) ≤ length a.items)
IsSpliced h w xs a (Some b) = (a.items ++ b.items ≡ xs) × IsChild (h + 1) a × IsChild (h + 1) b

-- either that is done, or the new entries are handed back
abbrev pub IsSplicing : {T : Type 0} → ℕ → ℕ → List T → List T → Splicing (Seen T) (Vec T Global) → Type 0
IsSplicing h w xs ys (Done a b) = IsSpliced h w xs a b
IsSplicing h w xs ys (Back es) = es.items ≡ ys

-- the new entries ys are handed back only if the range has more than one item, or if there are more than 12 of them
abbrev pub IsReturn : {T : Type 0} → ℕ → List T → Splicing (Seen T) (Vec T Global) → Type 0
IsReturn n ys (Done a b) = Unit {0}
IsReturn n ys (Back es) = (1 < n) ⊎ (12 < length ys)

-- from its item r on, child k holds the n items from i on
abbrev pub IsWithin : {T : Type 0} → List (Seen T) → ℕ → ℕ → ℕ → ℕ → Type 0
IsWithin {T} ts i n k r = (k < length ts) × ((d : Seen T) → r + n ≤ length (get_or ts k d).items)
    × (length (join_items (take k ts)) + r ≡ i)
