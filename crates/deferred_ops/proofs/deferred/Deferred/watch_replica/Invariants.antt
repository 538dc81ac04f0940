use Rattle.std.proofs.Common.{◌≡◌}
use Rattle.deferred_ops.proofs.deferred.Deferred.watch_replica.Given as goal

abbrev pub invariant-loop-i : goal.invariant-loop-i
invariant-loop-i l = l.self ≡ l.fn.self
