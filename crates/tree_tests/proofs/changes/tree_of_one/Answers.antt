use Rattle.std.proofs.Common.{[], ◌∷◌, arith}
use Rattle.tree_tests.proofs.changes.tree_of_one.Goals as goal

pub from_item-requires : goal.from_item-requires
from_item-requires g c = g.met.T.Numbered.sums_fit (c.in_ok-item.item ∷ []) (omega arith)
