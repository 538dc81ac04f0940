use Rattle.std.proofs.Common.{◌≡◌, ◌∷◌, take}
use Rattle.sum_tree.specs.Laws.{fold}
use Rattle.sum_tree.proofs.around.trees_sum.Given as goal

abbrev pub invariant-loop-tree : goal.invariant-loop-tree
invariant-loop-tree g l =
    let total = fold g.T.Summary.Summary.empty g.T.Summary.Summary.op g.T.Item.sum_of in
    g.T.Summary.Summary.op l.sum (total l.last.items) ≡ fold g.T.Summary.Summary.empty g.T.Summary.Summary.op (λ t. total t.items) (l.initial.last ∷ take l.tree-index l.rest)
