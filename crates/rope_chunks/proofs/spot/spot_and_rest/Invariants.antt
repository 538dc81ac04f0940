use Rattle.rope_chunks.proofs.Spots.{IsPart}
use Rattle.rope_chunks.proofs.spot.spot_and_rest.Given as goal

abbrev pub invariant-loop-entries : goal.invariant-loop-entries
invariant-loop-entries l = IsPart l.fn.tree.items l.node.items l.before l.rest l.fn.offset

abbrev pub decreases-loop-entries : goal.decreases-loop-entries
decreases-loop-entries l = l.node.height
