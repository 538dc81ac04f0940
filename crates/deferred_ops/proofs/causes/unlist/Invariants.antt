use Rattle.std.proofs.Common.{◌≡◌, ◌⊎◌, ℕ, false, drop}
use Rattle.op_model.specs.Sorted.{Member}
use Rattle.deferred_ops.specs.Deferred.{KeepsCauses, KeepsOthers, has_cause}
use Rattle.deferred_ops.proofs.causes.unlist.Given as goal

abbrev pub invariant-loop-replica : goal.invariant-loop-replica
invariant-loop-replica l = record {
  gone : (r x : ℕ) → Member (r, x) l.seen → (has_cause l.causes (r, x, l.stamp) ≡ false) ⊎ Member (r, x) (drop l.replica-index l.seen);
  fewer : KeepsCauses l.causes l.fn.causes;
  others : KeepsOthers l.stamp l.fn.causes l.causes;
}
