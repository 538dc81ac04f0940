-- When a change within one leaf hands the new entries back.
use Rattle.std.proofs.Common.{◌≡◌, ℕ, ◌<◌, ◌≤◌, ◌⊎◌, inl, inr, List, length, Vec, Global, arith, subst}
use Rattle.sum_tree.specs.Seen.{Seen}
use Rattle.sum_tree.specs.Spliced.{IsReturn}
use Rattle.sum_tree.specs.declared.splice.Splicing.{Splicing}
use Rattle.sum_tree.specs.declared.splice.Splicing.TheVariants.{Back}

neither : (n m : ℕ) → (1 < n) ⊎ (12 < m) → n ≤ 1 → m ≤ 12 → ⊥
neither n m (inl l) near few = omega (arith, l, near)
neither n m (inr l) near few = omega (arith, l, few)

-- 12 entries or fewer are not handed back if the range has at most one item
pub not_returned : {T : Type 0} (n : ℕ) (ys : List T) (r : Splicing (Seen T) (Vec T Global)) (es : Vec T Global) → r ≡ Back es → IsReturn n ys r → n ≤ 1 → length ys ≤ 12 → ⊥
not_returned n ys r es e h near few = neither n (length ys) (subst (λ (q : Splicing (Seen _) (Vec _ Global)). IsReturn n ys q) e h) near few
