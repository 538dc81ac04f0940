use Rattle.std.proofs.Common.{◌≡◌}
use Rattle.std.specs.List.{find}
use Rattle.std.specs.Map.{values_of}
use Rattle.deferred_ops.specs.Deferred.{least_ready, misses_nothing}
use Rattle.deferred_ops.proofs.deferred.Deferred.ready.Given as goal

abbrev pub invariant-loop-op : goal.invariant-loop-op
invariant-loop-op l = least_ready l.fn.after l.have l.self ≡ find (misses_nothing l.have) (values_of l.op-iterator)
