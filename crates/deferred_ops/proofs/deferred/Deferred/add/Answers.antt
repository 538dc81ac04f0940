use Rattle.std.proofs.Common.{◌∙◌, ap, subst, sym}
use Rattle.std.proofs.lemmas.Bool.{and_parts}
use Rattle.std.specs.Map.{values_of}
use Rattle.op_model.specs.Histories.{operation_at}
use Rattle.op_model.specs.Operations.{stamp_of}
use Rattle.deferred_ops.specs.Deferred.{AreKeyed, AreListed, AreOfWaiting, KeepsOthers, NoneListed}
use Rattle.deferred_ops.proofs.Keyed.{added}
use Rattle.deferred_ops.proofs.Listing.{added_listed, dropped_listed, more_listed}
use Rattle.deferred_ops.proofs.OfWaiting.{added_of, fewer_of, unadded_of}
use Rattle.deferred_ops.proofs.deferred.Deferred.add.Goals as goal

pub invariant_of-self : goal.invariant_of-self
invariant_of-self c = (
  c.self.invariant.0,
  λ listed. more_listed c.self.inside.causes c.list_cause.new.causes c.list_cause.ensures.kept (values_of c.self.inside.waiting.entries) (c.self.invariant.1 listed),
  fewer_of c.self.inside.causes c.list_cause.new.causes (values_of c.self.inside.waiting.entries) c.in_err-is_listed.ensures.err c.self.invariant.2,
)

pub invariant_of-self-in-Ok : goal.invariant_of-self-in-Ok
invariant_of-self-in-Ok c =
    let put = added c.self.inside.waiting.entries c.insert.new.self.entries c.args.self.now c.stamp-stamp.result c.args.op c.self.view_is c.stamp-stamp.ensures c.self.invariant.0 c.requires c.in-Ok.ensures.entries in (
      put.1,
      λ both.
          let parts = and_parts _ _ (sym c.both-self-inside.ensures ∙ both) in
          let others = more_listed c.self.inside.causes c.list_cause.new.causes c.list_cause.ensures.kept (values_of c.self.inside.waiting.entries) (c.self.invariant.1 parts.0) in
          subst (AreListed c.list_cause.new.causes) (sym put.0) (added_listed c.list_cause.new.causes c.args.op c.args.self.now (c.in_ok-is_listed.ensures.listed parts.1) (subst (AreListed c.list_cause.new.causes) c.self.view_is others)),
      subst (AreOfWaiting c.list_cause.new.causes) (sym put.0) (added_of c.self.inside.causes c.list_cause.new.causes c.args.op c.args.self.now c.requires c.list_cause.ensures.added (subst (AreOfWaiting c.self.inside.causes) c.self.view_is c.self.invariant.2)),
    )

pub returns-in-Ok-clause-ok : goal.returns-in-Ok-clause-ok
returns-in-Ok-clause-ok c = (added c.self.inside.waiting.entries c.insert.new.self.entries c.args.self.now c.stamp-stamp.result c.args.op c.self.view_is c.stamp-stamp.ensures c.self.invariant.0 c.requires c.in-Ok.ensures.entries).0

pub invariant_of-self-in-Err : goal.invariant_of-self-in-Err
invariant_of-self-in-Err c =
    let w = values_of c.self.inside.waiting.entries in
    let causes = c.self.inside.causes in
    let anew = c.list_cause.new.causes in
    let fewer = c.drop_unlisted.new.causes in
    let op = ap (λ p. p.1) c.in-Err.ensures.value_returned in
    let gone = subst (NoneListed fewer) op c.drop_unlisted.ensures.gone in
    let others = subst (λ o. KeepsOthers (stamp_of o) anew fewer) op c.drop_unlisted.ensures.others in
    let new = ap (λ z. operation_at z (stamp_of c.args.op)) c.self.view_is ∙ c.requires in
    let same = c.in-Err.ensures.err in (
      subst AreKeyed (sym same) c.self.invariant.0,
      λ listed. subst (λ es. AreListed fewer (values_of es)) (sym same) (dropped_listed anew fewer (stamp_of c.args.op) others w new (more_listed causes anew c.list_cause.ensures.kept w (c.self.invariant.1 listed))),
      subst (λ es. AreOfWaiting fewer (values_of es)) (sym same) (unadded_of causes anew fewer c.args.op w c.list_cause.ensures.added gone c.drop_unlisted.ensures.fewer c.self.invariant.2),
    )
