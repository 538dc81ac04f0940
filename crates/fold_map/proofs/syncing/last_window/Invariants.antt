use Rattle.fold_map.proofs.Groups.{Sharing}
use Rattle.fold_map.proofs.syncing.last_window.Given as goal

abbrev pub invariant-loop-first : goal.invariant-loop-first
invariant-loop-first l = Sharing l.spans l.edits l.last l.first l.run

abbrev pub decreases-loop-first : goal.decreases-loop-first
decreases-loop-first l = l.first
