use Rattle.std.proofs.Common.{◌≡◌, ◌∙◌, List, [], ◌∷◌, ◌++◌, ap, append-nil, append_assoc, arith, subst, sym}
use Rattle.std.proofs.lemmas.List.{nil_from_length}
use Rattle.std.proofs.lemmas.Result.{err_from_is_err_and}
use Rattle.std.specs.Vec.Iter.{into_iter_items}
use Rattle.op_model.specs.declared.operation.Operation.{Operation}
use Rattle.op_model.specs.Lawful.{Lawful}
use Rattle.op_model.proofs.MainLaws.{texts_are_shown_cells}
use Rattle.text_buffer.specs.Buffer.{BufferState}
use Rattle.text_buffer.specs.Opening.{rules_of}
use Rattle.text_buffer.proofs.Opens.{IsOpened, opened_next, opens_lawful, stops_next}
use Rattle.text_buffer.proofs.buffer.Buffer.open.Goals as goal

pub loop-op-preserved : goal.loop-op-preserved
loop-op-preserved c =
    let b = c.loop-op.buffer in
    let op = c.in-Some-next.op in
    let rest = into_iter_items c.next-in-loop-op.new.self in
    let was = c.loop-op.invariant in
    let new = c.in_ok-buffer-2.ensures.new in
    let is : IsOpened c.args.replica c.args.limits c.args.endings b = (was.buffer, was.opens) in
    let now = opened_next c.args.replica c.args.limits c.args.endings b c.in_ok-buffer-2.buffer op is c.in_ok-buffer-2.ensures.ok new in
    record {
      split = ap (λ (x : BufferState). x.history ++ rest) new ∙ append_assoc b.history (op ∷ []) rest ∙ ap (λ (x : List Operation). b.history ++ x) (sym c.in-Some-next.ensures.items) ∙ was.split;
      buffer = now.0;
      opens = now.1;
    }

pub returns-in_err-buffer-2-clause-fault : goal.returns-in_err-buffer-2-clause-fault
returns-in_err-buffer-2-clause-fault c =
    let b = c.loop-op.buffer in
    let op = c.in-Some-next.op in
    let rest = into_iter_items c.next-in-loop-op.new.self in
    let was = c.loop-op.invariant in
    let is : IsOpened c.args.replica c.args.limits c.args.endings b = (was.buffer, was.opens) in
    let p = err_from_is_err_and c.from_residual-in_err-buffer-2.result c.from_residual-in_err-buffer-2.ensures.1 in
    rw (p.1, p.2) (stops_next c.args.replica c.args.limits c.args.endings b op rest c.args.ops.items c.in_err-buffer-2.field-0.0 is
    (ap (λ (x : List Operation). b.history ++ x) (sym c.in-Some-next.ensures.items) ∙ was.split) c.in_err-buffer-2.ensures.fault)

pub returns-clause-lawful : goal.returns-clause-lawful
returns-clause-lawful c =
    let h = c.loop-op.buffer.history in
    let none : into_iter_items c.loop-op.ops ≡ [] = nil_from_length (into_iter_items c.loop-op.ops) (omega (arith, c.in_default-next.ensures.cases.0, c.loop-op.ops.rest.ok.0)) in
    let whole : h ≡ c.args.ops.items = sym (append-nil h) ∙ ap (λ (x : List Operation). h ++ x) (sym none) ∙ c.loop-op.invariant.split in
    subst Lawful whole (opens_lawful (rules_of c.args.limits c.args.endings) h c.loop-op.invariant.opens)

pub returns-clause-replayed : goal.returns-clause-replayed
returns-clause-replayed c = (texts_are_shown_cells c.loop-op.buffer.history (opens_lawful (rules_of c.args.limits c.args.endings) c.loop-op.buffer.history c.loop-op.invariant.opens)).2
