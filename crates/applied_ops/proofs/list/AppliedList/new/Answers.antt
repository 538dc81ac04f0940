use Rattle.std.proofs.Common.{refl}
use Rattle.applied_ops.proofs.Placing.{none_placed}
use Rattle.applied_ops.proofs.list.AppliedList.new.Goals as goal

pub same-result : goal.same-result
same-result c = refl

pub invariant_of-result : goal.invariant_of-result
invariant_of-result c = none_placed c.in_ok-new-2.field-0.items c.in_ok-new.field-0.items c.in_ok-new-2.ensures.items c.in_ok-new.ensures.items
