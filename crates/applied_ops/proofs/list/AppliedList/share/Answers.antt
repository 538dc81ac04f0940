use Rattle.std.proofs.Common.{refl, subst, sym}
use Rattle.applied_ops.specs.Placed.{AreEntriesOf}
use Rattle.applied_ops.proofs.list.AppliedList.share.Goals as goal

pub same-result : goal.same-result
same-result c = refl

pub invariant_of-result : goal.invariant_of-result
invariant_of-result c =
    subst (λ t. AreEntriesOf t.items c.in_ok-share.field-0.items) (sym c.in_ok-share-2.ensures) (subst (λ t. AreEntriesOf c.self.inside.entries.items t.items) (sym c.in_ok-share.ensures) c.self.invariant)
