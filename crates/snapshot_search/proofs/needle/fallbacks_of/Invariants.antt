use Rattle.std.proofs.Common.{◌≡◌, length}
use Rattle.snapshot_search.specs.Shifts.{AreFallbacks, IsFallback}
use Rattle.snapshot_search.proofs.needle.fallbacks_of.Given as goal

abbrev pub invariant-loop-i : goal.invariant-loop-i
invariant-loop-i l = record {
  len : length l.table.items ≡ l.i;
  each : AreFallbacks l.needle l.table.items;
  last : IsFallback l.needle l.i l.matched;
}
