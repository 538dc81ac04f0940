use Rattle.rope_chunks.proofs.Tails.{IsTail}
use Rattle.rope_chunks.proofs.lent.leaf_from.Given as goal

abbrev pub invariant-loop-entries : goal.invariant-loop-entries
invariant-loop-entries l = IsTail l.fn.tree.items l.node.items l.rest l.fn.index

abbrev pub decreases-loop-entries : goal.decreases-loop-entries
decreases-loop-entries l = l.node.height
