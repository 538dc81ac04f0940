use Rattle.std.proofs.Common.{◌≡◌, ℕ, drop, subst, arith}
use Rattle.remote_edit.specs.Places.{IsAfter}
use Rattle.remote_edit.proofs.RangeMoves.{left_start}
use Rattle.remote_edit.proofs.edit_moves.left_from.Goals as goal

pub overflow_sub-left : goal.overflow_sub-left
overflow_sub-left c = (left_start c.summary-all.result.now c.args.tree.now.items c.args.before c.args.from c.summary-all.ensures c.requires.before).0

pub overflow_sub-left-2 : goal.overflow_sub-left-2
overflow_sub-left-2 c = (left_start c.summary-all.result.now c.args.tree.now.items c.args.before c.args.from c.summary-all.ensures c.requires.before).1

pub loop-at-init : goal.loop-at-init
loop-at-init c = (left_start c.summary-all.result.now c.args.tree.now.items c.args.before c.args.from c.summary-all.ensures c.requires.before).2

pub returns : goal.returns
returns c =
    let e : c.loop-at.at ≡ c.args.to = omega (arith, c.loop-at-test.false, c.loop-at.auto.at-end c.requires.order) in
    subst (λ (n : ℕ). IsAfter c.loop-at.left (drop n c.args.tree.now.items)) e c.loop-at.invariant
