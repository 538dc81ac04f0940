use Rattle.fold_map.proofs.Turns.{IsGoing}
use Rattle.fold_map.proofs.syncing.spans_after.Given as goal

abbrev pub invariant-loop-first : goal.invariant-loop-first
invariant-loop-first l = IsGoing l.old l.snapshot l.folds l.spans l.list l.left l.made

abbrev pub decreases-loop-first : goal.decreases-loop-first
decreases-loop-first l = l.left
