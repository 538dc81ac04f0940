-- Nodes made from children.
use Rattle.std.proofs.Common.{◌≡◌, ℕ, ◌+◌, ◌^◌, ◌≤◌, List, length, None, arith}
use Rattle.sum_tree.specs.Seen.{Seen}
use Rattle.sum_tree.specs.Shape.{join_items, IsChild}
use Rattle.sum_tree.specs.Grown.{IsSplit}

module _ {T : Type 0} where
  -- a node that was made of n children, 6 to 12 of them
  pub made_child : (h : ℕ) (a : Seen T) (n : ℕ) → a.height ≡ h → a.width ≡ n → (6 ≤ a.width → 6 ^ (a.height + 1) ≤ length a.items) → 6 ≤ n → n ≤ 12 → IsChild (h + 1) a
  made_child h a n level width many least most =
      let wide : 6 ≤ a.width = omega (arith, width, least) in
      record {
        lower = omega (arith, level);
        wide = wide;
        narrow = omega (arith, width, most);
        many = many wide;
      }

  pub inner_alone : (h : ℕ) (ts : List (Seen T)) (a : Seen T) → a.items ≡ join_items ts → a.height ≡ h → a.width ≡ length ts → (6 ≤ a.width → 6 ^ (a.height + 1) ≤ length a.items) → length ts ≤ 12 → IsSplit h (length ts) (join_items ts) a None
  inner_alone h ts a i level width many most = (i, level, omega (arith, width), omega (arith, width, most), many)
