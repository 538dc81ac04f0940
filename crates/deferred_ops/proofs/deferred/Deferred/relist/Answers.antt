use Rattle.std.proofs.Common.{ℕ, ◌∙◌, inl, inr, subst, sym}
use Rattle.std.proofs.lemmas.Bool.{and_parts, cases_Bool}
use Rattle.std.specs.Map.{values_of}
use Rattle.op_model.specs.Sorted.{Ascending, Member}
use Rattle.op_model.specs.Steps.{older}
use Rattle.op_model.proofs.settling.Causes.{missing_listed}
use Rattle.deferred_ops.specs.Deferred.{Cause}
use Rattle.deferred_ops.proofs.Keyed.{looked_up}
use Rattle.deferred_ops.proofs.Listing.{relisted}
use Rattle.deferred_ops.proofs.OfWaiting.{fewer_of, relisted_of}
use Rattle.deferred_ops.proofs.deferred.Deferred.relist.Goals as goal

pub invariant_of-self : goal.invariant_of-self
invariant_of-self c =
    let w = values_of c.self.inside.waiting.entries in
    let causes = c.self.inside.causes in
    let anew = c.replace-is_listed.new.causes in
    let seen = c.in-Some.seen in
    let op = c.in-Some-get.op.now in
    let e : ℕ × ℕ = (c.in-Some-first_missing.replica, c.in-Some-first_missing.value) in
    let missed : Cause = (e.0, e.1, c.stamp.result) in
    let cause = missing_listed c.args.have.now c.version.result.now e (sym c.in-Some-first_missing.ensures) in
    let among = subst (Member e) c.version.ensures cause.1 in
    let found = sym (c.in-Some-get.ensures.value ∙ looked_up c.self.inside.waiting.entries seen.2 c.self.invariant.0) in (
      c.self.invariant.0,
      λ both.
          let parts = and_parts _ _ (sym c.both-self-inside.ensures ∙ both) in
          relisted causes anew seen missed (c.replace-is_listed.ensures.listed parts.1) op w (subst (Ascending older) (sym c.self.view_is) c.known.ensures) found c.stamp.ensures cause.0 among (c.self.invariant.1 parts.0),
      elim (cases_Bool c.replace-is_listed.result) [
        | inl done ↦ relisted_of causes anew seen missed (c.replace-is_listed.ensures.listed done) op w found c.stamp.ensures among c.self.invariant.2
        | inr failed ↦ fewer_of causes anew w (c.replace-is_listed.ensures.fewer failed) c.self.invariant.2
      ],
    )
