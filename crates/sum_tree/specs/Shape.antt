-- How contracts see a node, and what holds of it.
use Rattle.std.specs.Prelude.{◌≡◌, ℕ, ◌+◌, ◌^◌, ◌≤◌, List, length}
use Rattle.std.specs.List.{All, flat_map}
use Rattle.sum_tree.specs.Laws.{fold}
use Rattle.sum_tree.specs.Seen.{Seen}
use Rattle.sum_tree.specs.declared.tree.Node.{Node}
use Rattle.sum_tree.specs.declared.tree.Content.{Content}
use Rattle.sum_tree.specs.declared.tree.Content.TheVariants.{Leaf, Inner}

-- the items of the trees, one after another
abbrev pub join_items : {T : Type 0} → List (Seen T) → List T
join_items ts = flat_map (λ t. t.items) ts

abbrev pub content_items : {T S : Type 0} → Content T S → List T
content_items (Leaf v) = v.items
content_items (Inner v) = join_items v.items

abbrev pub content_width : {T S : Type 0} → Content T S → ℕ
content_width (Leaf v) = length v.items
content_width (Inner v) = length v.items

abbrev pub node_view : {T S : Type 0} → Node T S → Seen T
node_view n = record { items = content_items n.content; height = n.height; width = content_width n.content }

-- what a node of height h requires of each child
pub record IsChild {T : Type 0} (h : ℕ) (t : Seen T) : Type 0 where
  pub lower : t.height + 1 ≡ h
  pub wide : 6 ≤ t.width
  pub narrow : t.width ≤ 12
  pub many : 6 ^ (t.height + 1) ≤ length t.items

abbrev pub IsContent : {T S : Type 0} → ℕ → Content T S → Type 0
IsContent h (Leaf v) = (h ≡ 0) × (length v.items ≤ 12)
IsContent h (Inner v) = All (IsChild h) v.items × (2 ≤ length v.items) × (length v.items ≤ 12)

abbrev pub IsNode : {T S : Type 0} → S → (S → S → S) → (S → Type 0) → (T → S) → Node T S → Type 0
IsNode empty op fits sum_of n = IsContent n.height n.content
    × (n.len ≡ length (content_items n.content))
    × (n.sum ≡ fold empty op sum_of (content_items n.content))
    × fits (fold empty op sum_of (content_items n.content))
    × (length (content_items n.content) ≤ 2 ^ 40)
