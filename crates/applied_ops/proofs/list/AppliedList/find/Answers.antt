use Rattle.std.proofs.Common.{sym, ap, ◌∙◌, Some}
use Rattle.lamport_clock.specs.declared.stamp.Lamport.{Lamport}
use Rattle.lamport_clock.specs.Stamps.{same_stamp}
use Rattle.op_model.specs.declared.operation.Operation.{Operation}
use Rattle.op_model.specs.Histories.{History, operation_at}
use Rattle.applied_ops.proofs.Placing.{unplaced, past, found, another}
use Rattle.applied_ops.proofs.list.AppliedList.find.Goals as goal

pub returns-in_default : goal.returns-in_default
returns-in_default c =
    sym (unplaced c.self.inside.entries.items c.self.inside.operations.items c.args.t c.self.invariant c.in_default.ensures) ∙ ap (λ (h : History). operation_at h c.args.t) c.self.view_is

pub returns-in_default-get : goal.returns-in_default-get
returns-in_default-get c =
    sym (past c.self.inside.entries.items c.self.inside.operations.items c.args.t c.self.invariant c.in-Some.entry.now c.in-Some.ensures c.in_default-get.ensures) ∙ ap (λ (h : History). operation_at h c.args.t) c.self.view_is

pub returns-then-is_same : goal.returns-then-is_same
returns-then-is_same c =
    found c.self.inside.entries.items c.self.inside.operations.items c.args.t c.self.invariant c.in-Some.entry.now c.in-Some.ensures c.op-op.result.now
    (ap (λ (o : Operation). Some o) c.op-op.ensures ∙ c.in-Some-get.ensures)
    (ap (λ (s : Lamport). same_stamp s c.args.t) (sym c.stamp.ensures) ∙ sym c.is_same.ensures ∙ c.if-is_same.true)
    ∙ ap (λ (h : History). operation_at h c.args.t) c.self.view_is

pub returns-else-is_same : goal.returns-else-is_same
returns-else-is_same c =
    sym (another c.self.inside.entries.items c.self.inside.operations.items c.args.t c.self.invariant c.in-Some.entry.now c.in-Some.ensures c.op-op.result.now
    (ap (λ (o : Operation). Some o) c.op-op.ensures ∙ c.in-Some-get.ensures)
    (ap (λ (s : Lamport). same_stamp s c.args.t) (sym c.stamp.ensures) ∙ sym c.is_same.ensures ∙ c.if-is_same.false))
    ∙ ap (λ (h : History). operation_at h c.args.t) c.self.view_is
