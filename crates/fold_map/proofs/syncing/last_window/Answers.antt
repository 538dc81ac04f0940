use Rattle.std.proofs.Common.{◌≡◌, suc, ◌-◌, length, get_or, sym, arith}
use Rattle.op_model.specs.declared.anchor.TextEdit.{TextEdit}
use Rattle.fold_map.proofs.Groups.{some_last, one_shares, previous, one_more_in_order, one_more_shares, is_apart}
use Rattle.fold_map.proofs.syncing.last_window.Goals as goal

pub loop-first-init : goal.loop-first-init
loop-first-init c =
    let v = c.in_ok-last.ensures.value in
    one_shares c.args.spans.now c.args.edits.now c.in_ok-last.last.now (length c.args.edits.now - 1) c.touching-run.result (some_last c.args.edits.now c.in_ok-last.last.now v) (sym v) c.touching-run.ensures

pub touching-run-requires-in-loop-first : goal.touching-run-requires-in-loop-first
touching-run-requires-in-loop-first c =
    let n = c.loop-first.first in
    let some = c.loop-first-test.true in
    let p : suc (n - 1) ≡ n = omega (arith, some) in
    let s = c.loop-first.invariant in
    let e : TextEdit = get_or c.args.edits.now (n - 1) (record { old = (0, 0); new = (0, 0) }) in
    one_more_in_order c.args.spans.now c.args.edits.now c.in_ok-last.last.now n c.loop-first.run s (n - 1) e p
    (previous c.args.spans.now c.args.edits.now c.in_ok-last.last.now n c.loop-first.run s (n - 1) (record { old = (0, 0); new = (0, 0) }) p) c.requires

pub loop-first-preserved : goal.loop-first-preserved
loop-first-preserved c =
    let n = c.loop-first.first in
    let some = c.loop-first-test.true in
    let p : suc (n - 1) ≡ n = omega (arith, some) in
    let s = c.loop-first.invariant in
    let e : TextEdit = get_or c.args.edits.now (n - 1) (record { old = (0, 0); new = (0, 0) }) in
    one_more_shares c.args.spans.now c.args.edits.now c.in_ok-last.last.now n c.loop-first.run s (n - 1) e p
    (previous c.args.spans.now c.args.edits.now c.in_ok-last.last.now n c.loop-first.run s (n - 1) (record { old = (0, 0); new = (0, 0) }) p) c.touching-run-in-loop-first.result c.touching-run-in-loop-first.ensures

pub returns-else-run-edits : goal.returns-else-run-edits
returns-else-run-edits c =
    let n = c.loop-first.first in
    let some = c.loop-first-test.true in
    let p : suc (n - 1) ≡ n = omega (arith, some) in
    let s = c.loop-first.invariant in
    let e : TextEdit = get_or c.args.edits.now (n - 1) (record { old = (0, 0); new = (0, 0) }) in
    let past = c.if-run-edits.false in
    is_apart c.args.spans.now c.args.edits.now c.in_ok-last.last.now n c.loop-first.run s (n - 1) e p
    (previous c.args.spans.now c.args.edits.now c.in_ok-last.last.now n c.loop-first.run s (n - 1) (record { old = (0, 0); new = (0, 0) }) p) (omega (arith, past))
