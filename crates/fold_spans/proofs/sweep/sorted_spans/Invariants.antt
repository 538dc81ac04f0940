use Rattle.std.proofs.Common.{◌≡◌, ◌++◌, drop}
use Rattle.fold_spans.specs.Sweep.{swept, sweep}
use Rattle.fold_spans.proofs.sweep.sorted_spans.Given as goal

abbrev pub invariant-loop-range : goal.invariant-loop-range
invariant-loop-range l = l.sweep.spans.items ++ swept l.sweep.run (drop l.range-index l.rest) l.end ≡ sweep l.start l.ranges l.end
