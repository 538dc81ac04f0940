-- What is known of a tree whose root is read.
use Rattle.std.specs.Prelude.{◌≡◌, ◌≤◌, length}
use Rattle.std.specs.List.{All}
use Rattle.sum_tree.specs.Seen.{Seen}
use Rattle.sum_tree.specs.Shape.{join_items, IsChild}
use Rattle.sum_tree.specs.declared.parts.Parts.{Parts}
use Rattle.sum_tree.specs.declared.parts.Parts.TheVariants.{Leaf, Inner}

abbrev pub IsParts : {T S : Type 0} → Seen T → Parts T S → Type 0
IsParts t (Leaf es) = (t.items ≡ es.now) × (t.height ≡ 0) × (t.width ≡ length es.now) × (length es.now ≤ 12)
IsParts t (Inner ts) = (t.items ≡ join_items ts.now) × (t.width ≡ length ts.now)
    × All (IsChild t.height) ts.now × (2 ≤ length ts.now) × (length ts.now ≤ 12)
