-- The laws of anchors, which src/laws.rt shows.
use Rattle.std.specs.Prelude.{◌≡◌, ℕ, ◌≤◌, true, ◌++◌, Some, None, is_some}
use Rattle.std.specs.List.{AllByRecursion}
use Rattle.std.specs.Cmp.{IsTotalOrder}
use Rattle.std.specs.declared.cmp.Ordering.{Ordering}
use Rattle.std.specs.declared.cmp.Ordering.TheVariants.{Less, Equal}
use Rattle.op_model.specs.Domains.{IsProper}
use Rattle.op_model.specs.Histories.{History}
use Rattle.op_model.specs.Lawful.{Lawful}
use Rattle.op_model.specs.declared.anchor.Anchor.{Anchor}
use Rattle.op_model.specs.declared.anchor.Bias.{Bias}
use Rattle.op_model.specs.declared.anchor.Bias.TheVariants.{Left, Right}
use Rattle.op_model.specs.Anchors.{gap, compare_anchors, place_fault, known_place, known_order}
use Rattle.anchors.specs.Making.{made_anchor}
use Rattle.anchors.specs.Standing.{bias_of}

-- the order of anchors is total, and of those that are known, equal ones are one anchor
abbrev pub OrderIsTotal : Type 0
OrderIsTotal = (h : History) → IsTotalOrder (compare_anchors h)
    × (Lawful h → (a b : Anchor) → known_order h a b ≡ Some Equal → a ≡ b)

-- in one gap a Left anchor is less than a Right one
abbrev pub LeftBeforeRight : Type 0
LeftBeforeRight = (h : History) → (a b : Anchor) → (gap h a).0 ≡ (gap h b).0 → bias_of a ≡ Left
    → bias_of b ≡ Right → compare_anchors h a b ≡ Less

-- two anchors that have an order keep it when the history grows, and the lesser never has the greater place
abbrev pub AnchorsStayInOrder : Type 0
AnchorsStayInOrder = (h g : History) → Lawful h → Lawful (h ++ g) → (a b : Anchor) → (o : Ordering)
    → known_order h a b ≡ Some o
    → (known_order (h ++ g) a b ≡ Some o)
    × (o ≡ Less → (p q : ℕ) → known_place (h ++ g) a ≡ Some p → known_place (h ++ g) b ≡ Some q → p ≤ q)

-- at an offset without fault an anchor is made on each side, and its place is the offset
abbrev pub AnchorsComeBack : Type 0
AnchorsComeBack = (h : History) → Lawful h → AllByRecursion IsProper h → (o : ℕ) → (b : Bias) → place_fault h o ≡ None
    → (is_some (made_anchor h o b) ≡ true) × ((a : Anchor) → made_anchor h o b ≡ Some a → known_place h a ≡ Some o)
