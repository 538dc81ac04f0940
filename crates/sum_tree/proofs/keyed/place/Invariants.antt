use Rattle.std.proofs.Common.{◌≡◌, take}
use Rattle.std.specs.List.{All}
use Rattle.std.specs.declared.cmp.Ordering.TheVariants.{Less}
use Rattle.sum_tree.proofs.keyed.place.Given as goal

abbrev pub invariant-loop-i : goal.invariant-loop-i
invariant-loop-i g l = All (λ x. g.T.Key.Ord.cmp (g.T.KeyedItem.key_of x) l.key ≡ Less) (take l.i l.entries)
