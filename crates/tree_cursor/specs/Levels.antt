-- What is left on a path.
use Rattle.std.specs.Prelude.{◌≡◌, ◌≢◌, ℕ, ◌+◌, ◌*◌, ◌^◌, ◌≤◌, List, [], ◌∷◌, ◌++◌, length}
use Rattle.std.specs.List.{All}
use Rattle.sum_tree.specs.Seen.{Seen}
use Rattle.sum_tree.specs.Shape.{join_items, IsChild}
use Rattle.tree_cursor.specs.Rest.{Rest}
use Rattle.tree_cursor.specs.declared.path.Left.{Left}
use Rattle.tree_cursor.specs.declared.path.Left.TheVariants.{Trees, Entries}
use Rattle.tree_cursor.specs.declared.path.Part.{Part}
use Rattle.tree_cursor.specs.declared.path.Part.TheVariants.{Node, One}

-- more than a tree's children weigh together
abbrev pub weight : {T : Type 0} → Seen T → ℕ
weight t = 13 ^ (t.height + 1)

abbrev pub weights : {T : Type 0} → List (Seen T) → ℕ
weights [] = 0
weights (t ∷ ts) = weight t + weights ts

abbrev pub left_items : {T S : Type 0} → Left T S → List T
left_items (Trees ts) = join_items ts.now
left_items (Entries es) = es.now

abbrev pub left_work : {T S : Type 0} → Left T S → ℕ
left_work (Trees ts) = weights ts.now
left_work (Entries es) = length es.now

-- how many entries are looked at at most on the way from the first of these to one item below them
abbrev pub looks_below : {T : Type 0} → List (Seen T) → ℕ
looks_below [] = 0
looks_below (t ∷ ts) = length (t ∷ ts) + 12 * (t.height + 1)

abbrev pub left_looks : {T S : Type 0} → Left T S → ℕ
left_looks (Trees ts) = looks_below ts.now
left_looks (Entries es) = length es.now

-- the children that are left lie right below their node
abbrev pub IsBelow : {T S : Type 0} → ℕ → Left T S → Type 0
IsBelow h (Trees ts) = All (IsChild h) ts.now
IsBelow h (Entries es) = Unit

-- the part that comes first in a node, and what is left of the node behind it
abbrev pub IsFirstPart : {T S : Type 0} → Left T S → Part T S → Left T S → Type 0
IsFirstPart old (Node t) new = (left_items old ≡ t.now.items ++ left_items new)
    × (left_work old ≡ weight t.now + left_work new)
    × ((h : ℕ) → IsBelow h old → (t.now.height + 1 ≡ h) × IsBelow h new)
    × ((h : ℕ) → IsBelow h old → (1 ≤ length t.now.items) × (1 + left_looks new ≤ left_looks old))
    × (1 + 12 * (t.now.height + 1) ≤ left_looks old)
IsFirstPart old (One e) new = (left_items old ≡ e.now ∷ left_items new)
    × (left_work old ≡ 1 + left_work new) × ((h : ℕ) → IsBelow h old → IsBelow h new)
    × (1 + left_looks new ≤ left_looks old)

abbrev pub IsDone : {T S : Type 0} → Left T S → Type 0
IsDone l = (left_items l ≡ []) × (left_work l ≡ 0)

-- the levels stand innermost first
abbrev pub items_left : {T S : Type 0} → List (Left T S) → List T
items_left [] = []
items_left (l ∷ ls) = left_items l ++ items_left ls

abbrev pub work_left : {T S : Type 0} → List (Left T S) → ℕ
work_left [] = 0
work_left (l ∷ ls) = left_work l + work_left ls

-- a level of some height has few levels above it
pub record IsLevel {T S : Type 0} (above : List (Left T S)) (l : Left T S) : Type 0 where
  pub height : ℕ
  pub low : length above + height ≤ 15
  pub below : IsBelow height l

abbrev pub AreLevels : {T S : Type 0} → List (Left T S) → Type 0
AreLevels [] = Unit
AreLevels (l ∷ ls) = IsLevel ls l × AreLevels ls

-- taking the part that comes first leaves the others
abbrev pub TakesPart : {T S : Type 0} → Rest T → Part T S → Rest T → Type 0
TakesPart before (Node t) after = (before.items ≡ t.now.items ++ after.items)
    × (before.work ≡ weight t.now + after.work) × (after.depth + 1 + t.now.height ≤ 15)
TakesPart before (One e) after = (before.items ≡ e.now ∷ after.items) × (before.work ≡ 1 + after.work)

-- The same where something is left in the innermost level: what is taken is of that level. There is a look less, and
-- for a node those below it too.
abbrev pub TakesInner : {T S : Type 0} → Rest T → Part T S → Rest T → Type 0
TakesInner before (Node t) after = (1 ≤ length t.now.items) × (before.inner ≢ []
    → (before.inner ≡ t.now.items ++ after.inner) × (1 + after.looks ≤ before.looks)
    × (1 + 12 * (t.now.height + 1) ≤ before.looks))
TakesInner before (One e) after = before.inner ≢ []
    → (before.inner ≡ e.now ∷ after.inner) × (1 + after.looks ≤ before.looks)
