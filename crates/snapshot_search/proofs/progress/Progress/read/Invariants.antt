use Rattle.std.proofs.Common.{take, length, ◌≤◌, ◌-◌}
use Rattle.snapshot_search.specs.Progress.{Reads}
use Rattle.snapshot_search.proofs.progress.Progress.read.Given as goal

abbrev pub invariant-loop-at : goal.invariant-loop-at
invariant-loop-at l = record {
  within : l.at ≤ length l.piece;
  reads : Reads l.needle (take l.at l.piece) l.initial.self l.self;
}

abbrev pub decreases-loop-at : goal.decreases-loop-at
decreases-loop-at l = length l.piece - l.at
