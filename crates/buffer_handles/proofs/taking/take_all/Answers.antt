use Rattle.std.proofs.Common.{List, ◌∷◌, subst}
use Rattle.std.specs.Vec.Iter.{into_iter_items}
use Rattle.op_model.specs.declared.operation.Operation.{Operation}
use Rattle.text_buffer.specs.Calls.{Reaches}
use Rattle.buffer_handles.proofs.Takes.{IsTaking, on_err, taking_next, taking_stops}
use Rattle.buffer_handles.proofs.taking.take_all.Goals as goal

pub loop-op-preserved : goal.loop-op-preserved
loop-op-preserved c =
    let b = c.args.buffer.now in let ops = c.args.ops.items in let now = c.loop-op.buffer in let op = c.in-Some.op in let first = c.loop-op.first in
    let was = subst (λ (xs : List Operation). IsTaking b ops now xs first) c.in-Some.ensures.items c.loop-op.invariant in
    taking_next b ops now op (into_iter_items c.next.new.self) first c.take_next.new.buffer c.in_ok-first.first was
    c.in_ok-first.ensures.new c.in_ok-first.ensures.first

pub returns-in_err-first-clause-stopped : goal.returns-in_err-first-clause-stopped
returns-in_err-first-clause-stopped c =
    let b = c.args.buffer.now in
    on_err (Reaches b c.take_next.new.buffer) c.from_residual.result
    (taking_stops b c.args.ops.items c.loop-op.buffer c.in-Some.op (into_iter_items c.loop-op.ops) c.loop-op.first c.take_next.new.buffer c.loop-op.invariant c.in_err-first.ensures.stopped)
