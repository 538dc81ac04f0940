use Rattle.std.proofs.Common.{drop}
use Rattle.std.specs.List.{AllByRecursion}
use Rattle.deferred_ops.specs.Deferred.{NoneSeen}
use Rattle.deferred_ops.proofs.causes.are_missed.Given as goal

abbrev pub invariant-loop-entry : goal.invariant-loop-entry
invariant-loop-entry l = AllByRecursion (NoneSeen l.causes) (drop l.entry-index l.have) → AllByRecursion (NoneSeen l.causes) l.have
