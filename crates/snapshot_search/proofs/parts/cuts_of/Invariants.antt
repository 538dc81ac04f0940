use Rattle.std.proofs.Common.{◌≤◌}
use Rattle.snapshot_search.specs.Parts.{AreCuts}
use Rattle.snapshot_search.proofs.parts.cuts_of.Given as goal

abbrev pub invariant-loop : goal.invariant-loop
invariant-loop l = record {
  cuts : AreCuts l.rope l.cuts.items l.last;
  order : l.last ≤ l.target;
  within : l.target ≤ l.len;
}
