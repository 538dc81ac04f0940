use Rattle.fragments.proofs.Runs.{IsGathered}
use Rattle.fragments.proofs.index.InsertionIndex.deleted_by.Given as goal

abbrev pub invariant-loop-below : goal.invariant-loop-below
invariant-loop-below l = record {
  gathered : IsGathered l.edit l.self.deletions l.runs.items l.below;
}

abbrev pub decreases-loop-below : goal.decreases-loop-below
decreases-loop-below l = l.below
