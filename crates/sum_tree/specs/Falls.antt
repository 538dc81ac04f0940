-- Each child is lower than its parent.
use Rattle.std.specs.Prelude.{◌≡◌, ℕ, suc, ◌+◌, ◌≤◌, List, [], ◌∷◌}
use Rattle.std.specs.List.{All}
use Rattle.std.proofs.Common.{arith}
use denote.Param.Weighed.{most}
use Rattle.sum_tree.specs.declared.traits.Item.{Ghosts}
use Rattle.sum_tree.specs.declared.traits.Summary.{Ghosts as SummaryGhosts}
use Rattle.sum_tree.specs.declared.tree.Content.{Content}
use Rattle.sum_tree.specs.declared.tree.Content.TheVariants.{Leaf, Inner}
use Rattle.sum_tree.specs.declared.tree.SumTree.TheDeep.{deep-Content}
use Rattle.sum_tree.specs.Seen.{Seen}
use Rattle.sum_tree.specs.Shape.{IsContent, IsChild}

-- a child is lower than its parent
pub most_le : {T : Type 0} (h : ℕ) (ts : List (Seen T)) → All (IsChild h) ts → most (λ t. t.height + 1) ts ≤ h
most_le h [] a = omega arith
most_le h (t ∷ ts) a = let e : t.height + 1 ≡ h = (a 0 t (omega arith)).lower in omega (arith, most_le h ts (λ k d p. a (suc k) d (omega arith)))

pub content_lower : {T S : Type 0} (i : Ghosts T S) (s : SummaryGhosts S) (h : ℕ) (c : Content T S) → IsContent h c → deep-Content T S i s c ≤ h
content_lower i s h (Leaf v) a = omega arith
content_lower i s h (Inner v) a = omega (arith, most_le h v.items a.0)
