-- What a borrowed node, and what holds of it, say about the tree that it is seen as.
use Rattle.std.proofs.Common.{◌≡◌, ℕ, ◌^◌, ◌≤◌, List, length, Vec, Global, refl, sym, ap, subst, ◌∙◌}
use Rattle.sum_tree.specs.Laws.{SummaryLaws, fold}
use Rattle.sum_tree.specs.Seen.{Seen}
use Rattle.sum_tree.specs.Shape.{join_items, node_view, content_items, IsContent}
use Rattle.sum_tree.specs.Placed.{AreChildren, inner_seen}
use Rattle.sum_tree.specs.declared.tree.Node.{Node}
use Rattle.sum_tree.specs.declared.tree.Content.TheVariants.{Leaf, Inner}
use Rattle.sum_tree.proofs.Opened.{IsInner, opened, opened_leaf, leaf_height, leaf_width}

-- s is seen of a leaf with the entries xs
pub record IsLeaf {T : Type 0} (s : Seen T) (xs : List T) : Type 0 where
  pub items : s.items ≡ xs
  pub low : s.height ≡ 0
  pub width : s.width ≡ length xs
  pub few : length xs ≤ 12

-- a leaf that is opened
pub leaf_of : {S T : Type 0} {n m : Node T S} {s : Seen T} {v : Vec T Global} → node_view n ≡ s → m ≡ n → m.content ≡ Leaf v → IsContent n.height n.content → IsLeaf s v.items
leaf_of {S} {T} {n} {m} {s} {v} view lent is held =
    let wide : (s.width ≡ length v.items) × (length v.items ≤ 12) = leaf_width s n m v view lent is held in
    record {
      items = opened_leaf s n m v view lent is;
      low = leaf_height s n m v view lent is held;
      width = wide.0;
      few = wide.1;
    }

-- the children of a node are those of an inner node
pub inner_of : {T : Type 0} (h : ℕ) (ts : List (Seen T)) → AreChildren h ts → IsInner (inner_seen h ts) ts
inner_of h ts all = record {
  items = refl;
  width = refl;
  children = all.0;
  least = all.1;
  most = all.2;
}

-- what is read of a leaf that is opened
pub leaf_items : {S T : Type 0} {n m : Node T S} {s : Seen T} {v : Vec T Global} {xs : List T} → node_view n ≡ s → m ≡ n → m.content ≡ Leaf v → xs ≡ v.items → xs ≡ s.items
leaf_items {S} {T} {n} {m} {s} {v} view lent is read = read ∙ sym (opened_leaf s n m v view lent is)

-- what is read of an inner node that is opened
pub inner_items : {S T : Type 0} {n m : Node T S} {s : Seen T} {v : Vec (Seen T) Global} {us : List (Seen T)} → node_view n ≡ s → m ≡ n → m.content ≡ Inner v → IsContent n.height n.content → us ≡ v.items → join_items us ≡ s.items
inner_items {S} {T} {n} {m} {s} {v} view lent is held read = ap join_items read ∙ sym (opened s n m v view lent is held).items

module _ {S T : Type 0} where
  -- a node is as high as its tree
  pub node_height : {n m : Node T S} {s : Seen T} → m ≡ n → node_view n ≡ s → m.height ≡ s.height
  node_height same view = ap (λ (q : Node T S). q.height) same ∙ ap (λ (q : Seen T). q.height) view

  -- a tree is as short as its node
  pub seen_short : (n : Node T S) {s : Seen T} → node_view n ≡ s → length (content_items n.content) ≤ 2 ^ 40 → length s.items ≤ 2 ^ 40
  seen_short n view short = subst (λ (q : Seen T). length q.items ≤ 2 ^ 40) view short

module _ {S T : Type 0} {empty : S} {op : S → S → S} {admits fits : S → Type 0} (laws : SummaryLaws empty op admits fits) (sum_of : T → S) (admitted : (x : T) → admits (sum_of x)) where
  -- where a node's sum fits, so does its tree's
  pub seen_fits : (n : Node T S) {s : Seen T} → node_view n ≡ s → fits (fold empty op sum_of (content_items n.content)) → fits (fold empty op sum_of s.items)
  seen_fits n view ok = subst (λ (q : Seen T). fits (fold empty op sum_of q.items)) view ok
