use Rattle.std.proofs.Common.{◌≡◌, length, take}
use Rattle.std.specs.List.{All}
use Rattle.std.specs.declared.cmp.Ordering.TheVariants.{Less}
use Rattle.sum_tree.specs.Shape.{join_items}
use Rattle.sum_tree.proofs.keyed.child_for.Given as goal

abbrev pub invariant-loop-k : goal.invariant-loop-k
invariant-loop-k g l = (l.before ≡ length (join_items (take l.k l.children))) × All (λ x. g.T.Key.Ord.cmp (g.T.KeyedItem.key_of x) l.key ≡ Less) (join_items (take l.k l.children))
