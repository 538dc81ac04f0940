use Rattle.std.proofs.Common.{◌≡◌, ◌+◌, ◌-◌, ◌<◌, length, take, ap, arith, length-append}
use Rattle.std.specs.List.{concat}
use Rattle.sum_tree.specs.Shape.{join_items}
use Rattle.sum_tree.proofs.Children.{step_len, joined-take_le}
use Rattle.rope_chunks.proofs.Spots.{read_any, child_step, last_child}
use Rattle.rope_chunks.proofs.spot.child_at.Goals as goal
use Rattle.text_dims.proofs.Sums.{fold_len}

pub returns-then-rest-bytes-clause-within : goal.returns-then-rest-bytes-clause-within
returns-then-rest-bytes-clause-within c = λ d.
    let here : c.loop-k.k < length c.args.children.now = omega (arith, c.loop-k-test.true) in
    omega (arith, c.if-rest-bytes.true, fold_len c.index-children-k.result.items c.summary.result.now c.summary.ensures, ap (λ t. length (concat t.items)) (read_any c.args.children.now c.loop-k.k c.index-children-k.result d here c.index-children-k.is))

pub overflow_add-count : goal.overflow_add-count
overflow_add-count c =
    let ts = c.args.children.now in
    let k = c.loop-k.k in
    let here : k < length ts = omega (arith, c.loop-k-test.true) in
    omega (arith, step_len ts k c.index-children-k-in-loop-k.result c.loop-k.count c.len-count.result here c.index-children-k-in-loop-k.is c.loop-k.invariant.count c.len-count.ensures, joined-take_le ts (k + 1), c.requires.short)

pub loop-k-preserved : goal.loop-k-preserved
loop-k-preserved c =
    let ts = c.args.children.now in
    let k = c.loop-k.k in
    let t = c.index-children-k.result in
    let here : k < length ts = omega (arith, c.loop-k-test.true) in
    record {
      count = step_len ts k c.index-children-k-in-loop-k.result c.loop-k.count c.len-count.result here c.index-children-k-in-loop-k.is c.loop-k.invariant.count c.len-count.ensures;
      before = omega (arith, c.if-rest-bytes.false, c.loop-k.invariant.before, fold_len t.items c.summary.result.now c.summary.ensures, ap length (child_step ts k t here c.index-children-k.is), length-append (concat (join_items (take k ts))) (concat t.items));
    }

pub returns-clause-within : goal.returns-clause-within
returns-clause-within c = λ d.
    let end : c.loop-k.k ≡ length c.args.children.now - 1 = omega (arith, c.loop-k-test.false, c.loop-k.auto.k-end) in
    rw (← end) (last_child c.args.children.now c.loop-k.k c.loop-k.rest c.args.offset d (omega (arith, end, c.requires.least)) c.loop-k.invariant.before c.requires.within)
