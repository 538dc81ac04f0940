use Rattle.std.proofs.Common.{◌≡◌, ◌∙◌, Some, ap, refl, subst, sym}
use Rattle.std.specs.Map.{values_of}
use Rattle.lamport_clock.specs.declared.stamp.Lamport.{Lamport}
use Rattle.op_model.specs.Histories.{operation_at}
use Rattle.deferred_ops.specs.Deferred.{AreListed, AreOfWaiting, KeepsOthers}
use Rattle.deferred_ops.proofs.Keyed.{looked_up, removed}
use Rattle.deferred_ops.proofs.Listing.{removed_listed}
use Rattle.deferred_ops.proofs.OfWaiting.{found_stamp, removed_of}
use Rattle.deferred_ops.proofs.deferred.Deferred.remove.Goals as goal

pub returns-in_err-op-clause-removed : goal.returns-in_err-op-clause-removed
returns-in_err-op-clause-removed c = c.from_residual.ensures ∙ c.in_err-op.ensures.value ∙ looked_up c.self.inside.waiting.entries c.args.t c.self.invariant.0 ∙ ap (λ w. operation_at w c.args.t) c.self.view_is

pub returns-in_err-op-clause-rest : goal.returns-in_err-op-clause-rest
returns-in_err-op-clause-rest c = (removed c.self.inside.waiting.entries c.remove.new.self.entries c.args.self.now c.args.t c.self.view_is c.self.invariant.0 c.remove.ensures.entries c.remove.ensures.updates.1).0

pub invariant_of-self-2 : goal.invariant_of-self-2
invariant_of-self-2 c =
    let es = c.self.inside.waiting.entries in
    let causes = c.self.inside.causes in
    let fewer = c.unlist.new.causes in
    let t = c.args.t in
    let op = c.in_ok-op.op in
    let left = removed es c.remove.new.self.entries (values_of es) t refl c.self.invariant.0 c.remove.ensures.entries c.remove.ensures.updates.1 in
    let found : operation_at (values_of es) t ≡ Some op = sym (c.in_ok-op.ensures.value ∙ looked_up es t c.self.invariant.0) in
    let others = subst (λ (u : Lamport). KeepsOthers u causes fewer) (found_stamp (values_of es) t op found) c.unlist.ensures.others in (
      left.1,
      λ listed. subst (AreListed fewer) (sym left.0) (removed_listed causes fewer t others (values_of es) (c.self.invariant.1 listed)),
      subst (AreOfWaiting fewer) (sym left.0) (removed_of causes fewer t op (values_of es) found c.unlist.ensures.gone c.unlist.ensures.fewer c.self.invariant.2),
    )

pub returns-clause-removed : goal.returns-clause-removed
returns-clause-removed c = c.in_ok-op.ensures.value ∙ looked_up c.self.inside.waiting.entries c.args.t c.self.invariant.0 ∙ ap (λ w. operation_at w c.args.t) c.self.view_is

pub returns-clause-rest : goal.returns-clause-rest
returns-clause-rest c = (removed c.self.inside.waiting.entries c.remove.new.self.entries c.args.self.now c.args.t c.self.view_is c.self.invariant.0 c.remove.ensures.entries c.remove.ensures.updates.1).0
