use Rattle.std.proofs.Common.{◌≡◌}
use Rattle.deferred_ops.proofs.deferred.Deferred.watch.Given as goal

abbrev pub invariant-loop-entry : goal.invariant-loop-entry
invariant-loop-entry l = l.self ≡ l.fn.self
