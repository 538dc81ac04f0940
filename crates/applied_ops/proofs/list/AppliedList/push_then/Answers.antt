use Rattle.std.proofs.Common.{◌≡◌, sym, ap, ◌∙◌, arith, subst, None}
use Rattle.op_model.specs.Operations.{stamp_of}
use Rattle.op_model.specs.Histories.{History, operation_at}
use Rattle.applied_ops.specs.declared.stamp_entry.StampEntry.{StampEntry}
use Rattle.applied_ops.specs.Placed.{AreEntriesOf}
use Rattle.applied_ops.proofs.Placing.{kept, placed, inserted_long, pushed_long}
use Rattle.applied_ops.proofs.list.AppliedList.push_then.Goals as goal
use Rattle.sum_tree.proofs.Counts.{counts_fit}

pub insert-requires-clause-short : goal.insert-requires-clause-short
insert-requires-clause-short g c = inserted_long (record { stamp = c.stamp-stamp.result; index = c.len-index.result }) c.self.inside.entries.items (omega (arith, c.len.ensures))

pub push_then-requires-clause-fits : goal.push_then-requires-clause-fits
push_then-requires-clause-fits g c = counts_fit _ (pushed_long c.self.inside.operations.items c.in_ok-applied.applied (omega (arith, c.len-index.ensures)))

pub invariant_of-self-in_err-push_then : goal.invariant_of-self-in_err-push_then
invariant_of-self-in_err-push_then g c =
    let p : StampEntry = record { stamp = c.stamp-stamp.result; index = c.len-index.result } in
    let h = c.self.inside.operations.items in
    let fresh : operation_at h c.stamp-stamp.result ≡ None = ap (operation_at h) c.stamp-stamp.ensures ∙ ap (λ (g : History). operation_at g (stamp_of c.args.op)) c.self.view_is ∙ c.requires.new in
    subst (λ t. AreEntriesOf c.insert.new.self.items t.items) (sym c.in_err-push_then.ensures.err) (kept c.self.inside.entries.items c.insert.new.self.items h p c.self.invariant fresh c.in_ok-insert.ensures.ascending c.in_ok-insert.ensures.ok)

pub invariant_of-self-2 : goal.invariant_of-self-2
invariant_of-self-2 g c =
    let p : StampEntry = record { stamp = c.stamp-stamp.result; index = c.len-index.result } in
    let h = c.self.inside.operations.items in
    let fresh : operation_at h c.stamp-stamp.result ≡ None = ap (operation_at h) c.stamp-stamp.ensures ∙ ap (λ (g : History). operation_at g (stamp_of c.args.op)) c.self.view_is ∙ c.requires.new in
    subst (AreEntriesOf c.insert.new.self.items) (sym c.in_ok-push_then.ensures.ok)
    (placed c.self.inside.entries.items c.insert.new.self.items h p c.self.invariant fresh c.in_ok-insert.ensures.ascending c.in_ok-insert.ensures.ok c.in_ok-applied.applied (c.stamp-stamp.ensures ∙ ap stamp_of (sym c.in_ok-applied.ensures)) c.len-index.ensures)
