use Rattle.std.proofs.Common.{◌≡◌, ◌∷◌, take}
use Rattle.sum_tree.specs.Laws.{fold}
use Rattle.sum_tree.proofs.around.entries_sum.Given as goal

abbrev pub invariant-loop-entry : goal.invariant-loop-entry
invariant-loop-entry g l = g.T.Summary.Summary.op l.sum (g.T.Item.sum_of l.last) ≡ fold g.T.Summary.Summary.empty g.T.Summary.Summary.op g.T.Item.sum_of (l.initial.last ∷ take l.entry-index l.rest)
