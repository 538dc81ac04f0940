-- Heights of trees, and what a result says of them.
use Rattle.std.proofs.Common.{◌≡◌, ℕ, ◌≤◌, List, [], ◌∷◌, length, IfOk, ap, arith, length-append}
use Rattle.std.specs.Prelude.{Result, Ok, Err}
use Rattle.std.specs.List.{All}
use Rattle.sum_tree.specs.Seen.{Seen}
use Rattle.sum_tree.specs.Shape.{join_items, content_items, IsChild, IsContent}
use Rattle.sum_tree.specs.declared.tree.Content.{Content}
use Rattle.sum_tree.specs.declared.tree.Content.TheVariants.{Leaf, Inner}
use Rattle.sum_tree.proofs.Children.{child_filled}

-- what follows for each value
pub of_ok : {A E : Type 0} {P Q : A → Type 0} (r : Result A E) → IfOk r P → ((x : A) → P x → Q x) → IfOk r Q
of_ok (Ok x) h f = f x h
of_ok (Err e) h f = h

-- what holds of every value
pub on_ok : {A E : Type 0} {Q : A → Type 0} (r : Result A E) → ((x : A) → Q x) → IfOk r Q
on_ok (Ok x) f = f x
on_ok (Err e) f = tt

joined_filled : {T : Type 0} (h : ℕ) (ts : List (Seen T)) → All (IsChild h) ts → 2 ≤ length ts → 1 ≤ length (join_items ts)
joined_filled h [] a l = absurd (omega (arith, l))
joined_filled h (t ∷ ts) a l = omega (arith, child_filled h t (a 0 t (omega arith)), length-append t.items (join_items ts))

-- a node without items is a leaf
pub empty_node : {S T : Type 0} (h : ℕ) (c : Content T S) → IsContent h c → content_items c ≡ [] → h ≡ 0
empty_node h (Leaf v) k e = k.0
empty_node h (Inner v) k e = absurd (omega (arith, ap length e, joined_filled h v.items k.0 k.1))
