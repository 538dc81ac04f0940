use Rattle.std.proofs.Common.{sym, subst, ◌∙◌}
use Rattle.std.specs.BTreeMap.{is_at}
use Rattle.lamport_clock.specs.Versions.{IsVersion}
use Rattle.op_model.specs.Sorted.{Member}
use Rattle.op_model.proofs.settling.Causes.{first_listed}
use Rattle.deferred_ops.specs.Deferred.{Cause, cause_order, has_cause}
use Rattle.deferred_ops.proofs.Listing.{inserted_listed, stays_true}
use Rattle.deferred_ops.proofs.OfWaiting.{adds_one}
use Rattle.deferred_ops.proofs.causes.list_cause.Goals as goal

pub returns-clause-listed : goal.returns-clause-listed
returns-clause-listed c = λ _.
    let first = c.in-Some.field-0.now in
    let entries = sym c.as_slice.ensures.entries in
    let cause = first_listed c.as_slice.result.now first (subst IsVersion entries c.as_slice.ensures.kept) (sym c.in-Some.ensures.value) in
    let missed : Cause = (first.0, first.1, c.stamp.result) in
    inserted_listed c.args.causes.now c.insert.new.self missed c.args.op.now (has_cause c.args.causes.now) c.in_ok-insert.ensures.updates.0 c.stamp.ensures (cause.0, subst (Member (first.0, first.1)) (c.as_slice.ensures.entries ∙ c.version.ensures) cause.1)

pub returns-clause-kept : goal.returns-clause-kept
returns-clause-kept c = λ q has.
    let missed : Cause = (c.in-Some.field-0.now.0, c.in-Some.field-0.now.1, c.stamp.result) in
    c.in_ok-insert.ensures.updates.0 q ∙ stays_true (is_at (cause_order missed) q) (has_cause c.args.causes.now q) has

pub returns-clause-added : goal.returns-clause-added
returns-clause-added c =
    let first = c.in-Some.field-0.now in
    let entries = sym c.as_slice.ensures.entries in
    let cause = first_listed c.as_slice.result.now first (subst IsVersion entries c.as_slice.ensures.kept) (sym c.in-Some.ensures.value) in
    let missed : Cause = (first.0, first.1, c.stamp.result) in
    adds_one c.args.causes.now c.insert.new.self c.args.op.now missed c.in_ok-insert.ensures.updates.0 c.stamp.ensures (subst (Member (first.0, first.1)) (c.as_slice.ensures.entries ∙ c.version.ensures) cause.1)
