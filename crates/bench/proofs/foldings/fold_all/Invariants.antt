use Rattle.std.proofs.Common.{◌≡◌}
use Rattle.bench.proofs.foldings.fold_all.Given as goal

abbrev pub invariant-loop : goal.invariant-loop
invariant-loop l = l.map.history ≡ l.initial.map.history
