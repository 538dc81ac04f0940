-- Two nodes of one height, end to end.
use Rattle.std.proofs.Common.{◌≡◌, ℕ, ◌+◌, ◌≤◌, List, ◌++◌, length, sym, ap, subst, ◌∙◌, arith, length-append}
use Rattle.std.specs.List.{All}
use Rattle.std.proofs.lemmas.List.Elements.{All-append}
use Rattle.sum_tree.specs.Seen.{Seen}
use Rattle.sum_tree.specs.Shape.{join_items, IsChild}
use Rattle.sum_tree.proofs.Children.{joined-append}
use Rattle.sum_tree.proofs.Opened.{IsInner}
use Rattle.sum_tree.proofs.Nodes.{IsLeaf}

-- xs are the entries of a leaf seen as s, followed by those of one seen as t
pub record JoinsLeaves {T : Type 0} (s t : Seen T) (xs : List T) : Type 0 where
  pub items : xs ≡ s.items ++ t.items
  pub low : s.height ≡ 0
  pub wide : s.width + t.width ≤ length xs
  pub few : length xs ≤ 24

-- us are the children of an inner node seen as s, followed by those of one seen as t
pub record JoinsInners {T : Type 0} (s t : Seen T) (us : List (Seen T)) : Type 0 where
  pub items : join_items us ≡ s.items ++ t.items
  pub children : All (IsChild s.height) us
  pub wide : s.width + t.width ≤ length us
  pub least : 2 ≤ length us
  pub few : length us ≤ 24

module _ {T : Type 0} where
  -- entries that were copied behind one another
  pub joins_leaves : {s t : Seen T} {xs ys all : List T} → IsLeaf s xs → IsLeaf t ys → all ≡ xs ++ ys → JoinsLeaves s t all
  joins_leaves {s} {t} {xs} {ys} {all} front back made =
      let count : length all ≡ length xs + length ys = ap length made ∙ length-append xs ys in
      record {
        items = rw (front.items, back.items) made;
        low = front.low;
        wide = omega (arith, count, front.width, back.width);
        few = omega (arith, count, front.few, back.few);
      }

  -- children that were copied behind one another
  pub joins_inners : {s t : Seen T} {ts vs us : List (Seen T)} → IsInner s ts → IsInner t vs → t.height ≡ s.height → us ≡ ts ++ vs → JoinsInners s t us
  joins_inners {s} {t} {ts} {vs} {us} front back level made =
      let count : length us ≡ length ts + length vs = ap length made ∙ length-append ts vs in
      let same : All (IsChild s.height) vs = subst (λ (h : ℕ). All (IsChild h) vs) level back.children in
      record {
        items = rw (front.items, back.items) (ap join_items made ∙ joined-append ts vs);
        children = subst (λ (ws : List (Seen T)). All (IsChild s.height) ws) (sym made) (All-append (IsChild s.height) ts vs front.children same);
        wide = omega (arith, count, front.width, back.width);
        least = omega (arith, count, front.least);
        few = omega (arith, count, front.most, back.most);
      }
