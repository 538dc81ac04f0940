use Rattle.std.proofs.Common.{ap}
use Rattle.std.specs.List.{slice_get}
use Rattle.deferred_ops.proofs.Listing.{none_there, none_seen}
use Rattle.deferred_ops.proofs.causes.first_seen.Goals as goal

pub returns-in_err-first-clause-none : goal.returns-in_err-first-clause-none
returns-in_err-first-clause-none c = λ _. none_there c.args.causes.now c.args.replica c.args.value c.range.result (c.range.ensures.in_range tt) c.in_err-first.ensures.steps.0

pub returns-else-first-replica-clause-none : goal.returns-else-first-replica-clause-none
returns-else-first-replica-clause-none c = λ _.
    none_seen c.args.causes.now c.args.replica c.args.value c.range.result c.in_ok-first.field-0.now (c.range.ensures.in_range tt) (ap (λ keys. slice_get keys 0) c.in_ok-first.ensures.steps) c.else-first-replica.either
