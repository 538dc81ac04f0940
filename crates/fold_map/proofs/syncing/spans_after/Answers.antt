use Rattle.std.proofs.Common.{◌≡◌, ◌∙◌, suc, ◌-◌, get_or, refl, arith}
use Rattle.fold_map.proofs.Followed.{folds_stay}
use Rattle.fold_map.proofs.Turns.{first_turn, edits_in_order, last_turn, first_within, places, in_spans, in_window, next_turn}
use Rattle.fold_map.proofs.syncing.spans_after.Goals as goal

pub loop-first-init : goal.loop-first-init
loop-first-init c =
    first_turn c.args.old.now c.args.snapshot.now c.known.ensures c.known-2.ensures c.requires.within c.args.folds.now c.known-3.ensures.0 c.known-3.ensures.1 c.requires.folds c.args.spans.now c.requires.spans
    c.as_slice-list.result.now (c.as_slice-list.ensures ∙ c.in_ok-edits.ensures) c.in_ok-made.made c.in_ok-made.ensures _ refl

pub last_window-requires : goal.last_window-requires
last_window-requires c = edits_in_order c.args.old.now c.args.snapshot.now c.args.folds.now c.args.spans.now c.as_slice-list.result.now c.loop-first.left c.loop-first.made c.loop-first.invariant

pub ranges_in-requires-clause-folds : goal.ranges_in-requires-clause-folds
ranges_in-requires-clause-folds c = folds_stay c.args.old.now c.args.snapshot.now c.known.ensures.lawful c.known-2.ensures.lawful c.requires.within c.args.folds.now c.requires.folds

pub run_after-window-requires-clause-start : goal.run_after-window-requires-clause-start
run_after-window-requires-clause-start c =
    let first = first_within c.args.old.now c.args.snapshot.now c.args.folds.now c.args.spans.now c.as_slice-list.result.now c.loop-first.left c.loop-first.made c.loop-first.invariant c.in-Some.first c.in-Some.run' c.in-Some.ensures in
    let p : suc (c.loop-first.left - 1) ≡ c.loop-first.left = omega (arith, first) in
    (places c.args.old.now c.args.snapshot.now c.args.folds.now c.args.spans.now c.as_slice-list.result.now c.loop-first.left c.loop-first.made c.loop-first.invariant c.in-Some.first c.in-Some.run' c.in-Some.ensures
    (get_or c.as_slice-list.result.now c.in-Some.first (record { old = (0, 0); new = (0, 0) })) (get_or c.as_slice-list.result.now (c.loop-first.left - 1) (record { old = (0, 0); new = (0, 0) })) (c.loop-first.left - 1) (record { old = (0, 0); new = (0, 0) }) p refl refl).0

pub run_after-window-requires-clause-kept : goal.run_after-window-requires-clause-kept
run_after-window-requires-clause-kept c =
    let first = first_within c.args.old.now c.args.snapshot.now c.args.folds.now c.args.spans.now c.as_slice-list.result.now c.loop-first.left c.loop-first.made c.loop-first.invariant c.in-Some.first c.in-Some.run' c.in-Some.ensures in
    let p : suc (c.loop-first.left - 1) ≡ c.loop-first.left = omega (arith, first) in
    (places c.args.old.now c.args.snapshot.now c.args.folds.now c.args.spans.now c.as_slice-list.result.now c.loop-first.left c.loop-first.made c.loop-first.invariant c.in-Some.first c.in-Some.run' c.in-Some.ensures
    (get_or c.as_slice-list.result.now c.in-Some.first (record { old = (0, 0); new = (0, 0) })) (get_or c.as_slice-list.result.now (c.loop-first.left - 1) (record { old = (0, 0); new = (0, 0) })) (c.loop-first.left - 1) (record { old = (0, 0); new = (0, 0) }) p refl refl).1

pub run_after-window-requires-clause-end : goal.run_after-window-requires-clause-end
run_after-window-requires-clause-end c =
    let first = first_within c.args.old.now c.args.snapshot.now c.args.folds.now c.args.spans.now c.as_slice-list.result.now c.loop-first.left c.loop-first.made c.loop-first.invariant c.in-Some.first c.in-Some.run' c.in-Some.ensures in
    let p : suc (c.loop-first.left - 1) ≡ c.loop-first.left = omega (arith, first) in
    (places c.args.old.now c.args.snapshot.now c.args.folds.now c.args.spans.now c.as_slice-list.result.now c.loop-first.left c.loop-first.made c.loop-first.invariant c.in-Some.first c.in-Some.run' c.in-Some.ensures
    (get_or c.as_slice-list.result.now c.in-Some.first (record { old = (0, 0); new = (0, 0) })) (get_or c.as_slice-list.result.now (c.loop-first.left - 1) (record { old = (0, 0); new = (0, 0) })) (c.loop-first.left - 1) (record { old = (0, 0); new = (0, 0) }) p refl refl).2

pub run_after-window-requires-clause-room : goal.run_after-window-requires-clause-room
run_after-window-requires-clause-room c =
    let first = first_within c.args.old.now c.args.snapshot.now c.args.folds.now c.args.spans.now c.as_slice-list.result.now c.loop-first.left c.loop-first.made c.loop-first.invariant c.in-Some.first c.in-Some.run' c.in-Some.ensures in
    let p : suc (c.loop-first.left - 1) ≡ c.loop-first.left = omega (arith, first) in
    (places c.args.old.now c.args.snapshot.now c.args.folds.now c.args.spans.now c.as_slice-list.result.now c.loop-first.left c.loop-first.made c.loop-first.invariant c.in-Some.first c.in-Some.run' c.in-Some.ensures
    (get_or c.as_slice-list.result.now c.in-Some.first (record { old = (0, 0); new = (0, 0) })) (get_or c.as_slice-list.result.now (c.loop-first.left - 1) (record { old = (0, 0); new = (0, 0) })) (c.loop-first.left - 1) (record { old = (0, 0); new = (0, 0) }) p refl refl).3

pub make_again-requires-clause-within : goal.make_again-requires-clause-within
make_again-requires-clause-within c =
    let first = first_within c.args.old.now c.args.snapshot.now c.args.folds.now c.args.spans.now c.as_slice-list.result.now c.loop-first.left c.loop-first.made c.loop-first.invariant c.in-Some.first c.in-Some.run' c.in-Some.ensures in
    let p : suc (c.loop-first.left - 1) ≡ c.loop-first.left = omega (arith, first) in
    (in_spans c.args.old.now c.args.snapshot.now c.args.folds.now c.args.spans.now c.as_slice-list.result.now c.loop-first.left c.loop-first.made c.loop-first.invariant c.in-Some.first c.in-Some.run' c.in-Some.ensures
    (get_or c.as_slice-list.result.now c.in-Some.first (record { old = (0, 0); new = (0, 0) })) (get_or c.as_slice-list.result.now (c.loop-first.left - 1) (record { old = (0, 0); new = (0, 0) })) (c.loop-first.left - 1) (record { old = (0, 0); new = (0, 0) }) p refl refl c.run_after-window.result c.run_after-window.ensures).1

pub make_again-requires-clause-ranges : goal.make_again-requires-clause-ranges
make_again-requires-clause-ranges c =
    let first = first_within c.args.old.now c.args.snapshot.now c.args.folds.now c.args.spans.now c.as_slice-list.result.now c.loop-first.left c.loop-first.made c.loop-first.invariant c.in-Some.first c.in-Some.run' c.in-Some.ensures in
    let p : suc (c.loop-first.left - 1) ≡ c.loop-first.left = omega (arith, first) in
    in_window c.args.old.now c.args.snapshot.now c.args.folds.now c.args.spans.now c.as_slice-list.result.now c.loop-first.left c.loop-first.made c.loop-first.invariant c.in-Some.first c.in-Some.run' c.in-Some.ensures
    (get_or c.as_slice-list.result.now c.in-Some.first (record { old = (0, 0); new = (0, 0) })) (get_or c.as_slice-list.result.now (c.loop-first.left - 1) (record { old = (0, 0); new = (0, 0) })) (c.loop-first.left - 1) (record { old = (0, 0); new = (0, 0) }) p refl refl c.run_after-window.result c.run_after-window.ensures c.in_ok-ranges.ranges.items c.in_ok-ranges.ensures

pub make_again-requires-clause-room : goal.make_again-requires-clause-room
make_again-requires-clause-room c =
    let first = first_within c.args.old.now c.args.snapshot.now c.args.folds.now c.args.spans.now c.as_slice-list.result.now c.loop-first.left c.loop-first.made c.loop-first.invariant c.in-Some.first c.in-Some.run' c.in-Some.ensures in
    let p : suc (c.loop-first.left - 1) ≡ c.loop-first.left = omega (arith, first) in
    (in_spans c.args.old.now c.args.snapshot.now c.args.folds.now c.args.spans.now c.as_slice-list.result.now c.loop-first.left c.loop-first.made c.loop-first.invariant c.in-Some.first c.in-Some.run' c.in-Some.ensures
    (get_or c.as_slice-list.result.now c.in-Some.first (record { old = (0, 0); new = (0, 0) })) (get_or c.as_slice-list.result.now (c.loop-first.left - 1) (record { old = (0, 0); new = (0, 0) })) (c.loop-first.left - 1) (record { old = (0, 0); new = (0, 0) }) p refl refl c.run_after-window.result c.run_after-window.ensures).2

pub loop-first-preserved : goal.loop-first-preserved
loop-first-preserved c =
    let first = first_within c.args.old.now c.args.snapshot.now c.args.folds.now c.args.spans.now c.as_slice-list.result.now c.loop-first.left c.loop-first.made c.loop-first.invariant c.in-Some.first c.in-Some.run' c.in-Some.ensures in
    let p : suc (c.loop-first.left - 1) ≡ c.loop-first.left = omega (arith, first) in
    next_turn c.args.old.now c.args.snapshot.now c.args.folds.now c.args.spans.now c.as_slice-list.result.now c.loop-first.left c.loop-first.made c.loop-first.invariant c.in-Some.first c.in-Some.run' c.in-Some.ensures
    (get_or c.as_slice-list.result.now c.in-Some.first (record { old = (0, 0); new = (0, 0) })) (get_or c.as_slice-list.result.now (c.loop-first.left - 1) (record { old = (0, 0); new = (0, 0) })) (c.loop-first.left - 1) (record { old = (0, 0); new = (0, 0) }) p refl refl c.run_after-window.result c.run_after-window.ensures c.in_ok-ranges.ranges.items c.in_ok-ranges.ensures
    c.make_again.new.spans c.in_ok-make_again.ensures

pub returns : goal.returns
returns c = last_turn c.args.old.now c.args.snapshot.now c.args.folds.now c.args.spans.now c.as_slice-list.result.now c.loop-first.left c.loop-first.made c.loop-first.invariant c.in_default.ensures
