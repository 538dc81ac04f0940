use Rattle.std.proofs.Common.{◌≡◌, ◌-◌, ◌<◌, ◌++◌, [], ◌∷◌, length, take, List, ap, subst, ◌∙◌, arith}
use Rattle.sum_tree.specs.Laws.{fold}
use Rattle.sum_tree.specs.Grown.{with_pair}
use Rattle.sum_tree.specs.Shape.{join_items, IsChild}
use Rattle.sum_tree.proofs.Opened.{last_is_child}
use Rattle.sum_tree.proofs.Folds.{fits_right}
use Rattle.sum_tree.proofs.Pairs.{last_whole, pushed_beside}
use Rattle.sum_tree.proofs.here.push_beside.Goals as goal

pub with_behind-requires-clause-fits : goal.with_behind-requires-clause-fits
with_behind-requires-clause-fits g c =
    let ts = c.args.children.now.items in
    let n = c.len-last.result in
    let t = c.index.result.now in
    let ys = c.in_ok-other.other.items in
    let len : n ≡ length ts = omega (arith, c.len-last.ensures, c.args.children.now.ok) in
    let whole : join_items ts ++ c.args.entry ∷ [] ≡ join_items (take (n - 1) ts) ++ (t.items ++ ys) = last_whole ts n t c.args.entry ys len c.requires.least c.index.ensures c.in_ok-other.ensures.items in
    fits_right g.met.T.Summary.Summary.laws g.T.Item.sum_of g.met.T.Item.admitted (join_items (take (n - 1) ts)) (t.items ++ ys) (subst (λ (zs : List _). g.T.Summary.Summary.fits (fold g.T.Summary.Summary.empty g.T.Summary.Summary.op g.T.Item.sum_of zs)) whole c.requires.fits)

pub returns-clause-pushed : goal.returns-clause-pushed
returns-clause-pushed g c =
    let ts = c.args.children.now.items in
    let n = c.len-last.result in
    let len : n ≡ length ts = omega (arith, c.len-last.ensures, c.args.children.now.ok) in
    let few : length ts < 12 = omega (arith, c.if-len-ge-MOST.false, c.len.ensures, c.args.children.now.ok) in
    pushed_beside c.args.height ts c.put_last.new.list.items n c.index.result.now c.in_ok-front.front c.in_ok-front.back c.args.entry c.in_ok-other.other.items c.requires.children len c.requires.least few c.index.ensures c.in_ok-other.ensures.items c.in_ok-front.ensures.split (c.put_last.ensures ∙ ap (λ (us : List _). with_pair us (n - 1) c.in_ok-front.front c.in_ok-front.back) c.in_ok-reserve.ensures.items)

pub returns-in_err-front-clause-cost : goal.returns-in_err-front-clause-cost
returns-in_err-front-clause-cost g c =
    let ts = c.args.children.now.items in
    let n = c.len-last.result in
    let len : n ≡ length ts = omega (arith, c.len-last.ensures, c.args.children.now.ok) in
    let child : IsChild c.args.height c.index.result.now = last_is_child c.args.height ts n c.index.result.now c.requires.children len (omega (arith, len, c.requires.least)) c.index.ensures in
    omega (arith, child.lower, c.single.ensures.cost, c.in_ok-other.ensures.height, c.with_behind.ensures.cost)

pub returns-in_err-reserve-clause-cost : goal.returns-in_err-reserve-clause-cost
returns-in_err-reserve-clause-cost g c =
    let ts = c.args.children.now.items in
    let n = c.len-last.result in
    let len : n ≡ length ts = omega (arith, c.len-last.ensures, c.args.children.now.ok) in
    let child : IsChild c.args.height c.index.result.now = last_is_child c.args.height ts n c.index.result.now c.requires.children len (omega (arith, len, c.requires.least)) c.index.ensures in
    omega (arith, child.lower, c.single.ensures.cost, c.in_ok-other.ensures.height, c.with_behind.ensures.cost)

pub returns-clause-cost : goal.returns-clause-cost
returns-clause-cost g c =
    let ts = c.args.children.now.items in
    let n = c.len-last.result in
    let len : n ≡ length ts = omega (arith, c.len-last.ensures, c.args.children.now.ok) in
    let child : IsChild c.args.height c.index.result.now = last_is_child c.args.height ts n c.index.result.now c.requires.children len (omega (arith, len, c.requires.least)) c.index.ensures in
    omega (arith, child.lower, c.single.ensures.cost, c.in_ok-other.ensures.height, c.with_behind.ensures.cost)

pub returns-in_err-run-clause-cost : goal.returns-in_err-run-clause-cost
returns-in_err-run-clause-cost g c =
    let ts = c.args.children.now.items in
    let n = c.len-last.result in
    let len : n ≡ length ts = omega (arith, c.len-last.ensures, c.args.children.now.ok) in
    let child : IsChild c.args.height c.index.result.now = last_is_child c.args.height ts n c.index.result.now c.requires.children len (omega (arith, len, c.requires.least)) c.index.ensures in
    omega (arith, child.lower, c.single.ensures.cost, c.in_ok-other.ensures.height, c.with_behind.ensures.cost)
