use Rattle.std.proofs.Common.{◌≤◌}
use Rattle.snapshot_search.specs.Shifts.{Slides}
use Rattle.snapshot_search.proofs.needle.next_match.Given as goal

abbrev pub invariant-loop-kept : goal.invariant-loop-kept
invariant-loop-kept l = record {
  fewer : l.kept ≤ l.matched;
  slides : Slides l.needle l.matched l.byte l.kept;
}

abbrev pub decreases-loop-kept : goal.decreases-loop-kept
decreases-loop-kept l = l.kept
