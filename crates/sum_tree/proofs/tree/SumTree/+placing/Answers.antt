use Rattle.std.proofs.Common.{rules, List, ◌+◌, ◌*◌, ◌^◌, ◌<◌, ◌≤◌, length, ap, sym, subst, ◌∙◌, arith}
use Rattle.sum_tree.specs.Laws.{fold}
use Rattle.sum_tree.specs.Shape.{IsContent, content_items}
use Rattle.sum_tree.specs.Placed.{AreChildren, inner_seen}
use Rattle.sum_tree.specs.Around.{Fitting}
use Rattle.sum_tree.specs.Spliced.{splice_list}
use Rattle.sum_tree.specs.declared.tree.Content.{Content}
use Rattle.sum_tree.proofs.Nodes.{node_height}
use Rattle.sum_tree.proofs.Placeds.{placing_moved}
use Rattle.sum_tree.proofs.Descents.{step, step_short, step_same, step_children, step_fits, step_sums, step_fitting, step_placed, step_pair}
use Rattle.sum_tree.proofs.tree.SumTree.+placing.Goals as goal

pub place_in-place_in_children-requires : goal.place_in-place_in_children-requires
place_in-place_in_children-requires g t c κs within =
    let h = c.args.height in
    let is = c.in-Inner.is in
    let i = c.args.from in
    let j = c.args.from + c.args.count in
    let ys = c.args.entries.items in
    let children : AreChildren h c.in-Inner.children.items = subst (λ (q : Content _ _). IsContent h q) is c.requires.content in
    let old_fits = subst (λ (q : Content _ _). g.T.Summary.Summary.fits (fold g.T.Summary.Summary.empty g.T.Summary.Summary.op g.T.Item.sum_of (content_items q))) is c.requires.old_fits in
    let inside = subst (λ (q : Content _ _). j ≤ length (content_items q)) is c.requires.within in
    let short = subst (λ (q : Content _ _). length (splice_list i j ys (content_items q)) ≤ 2 ^ 40) is c.requires.short in
    let fits = subst (λ (q : Content _ _). g.T.Summary.Summary.fits (fold g.T.Summary.Summary.empty g.T.Summary.Summary.op g.T.Item.sum_of (splice_list i j ys (content_items q)))) is c.requires.fits in
    let fitting = subst (λ (q : Content _ _). Fitting g.T.Summary.Summary.fits g.T.Summary.Summary.op c.args.around.items (fold g.T.Summary.Summary.empty g.T.Summary.Summary.op g.T.Item.sum_of (splice_list i j ys (content_items q)))) is c.requires.fitting in
    search rules

pub place_in_children-place_here-requires : goal.place_in_children-place_here-requires
place_in_children-place_here-requires g t' c κs within' =
    let st = step c.args.height c.in-Some.place.0 c.in-Some.place.1 c.args.count c.args.from c.args.entries.items c.requires.children c.deref.ensures.value c.in-Some.ensures.some c.index_mut.ensures.value in
    let wide : 6 ≤ c.index_mut.result.now.width = st.child.wide in
    let fewer : 3 * c.index_mut.result.now.height + 2 < 3 * c.args.height = omega (arith, st.child.lower) in
    let within = st.within in
    let short = step_short st c.requires.short in
    let fits = step_fits g.met.T.Summary.Summary.laws g.T.Item.sum_of g.met.T.Item.admitted st c.requires.fits in
    let fitting = step_fitting g.met.T.Summary.Summary.laws g.T.Item.sum_of g.met.T.Item.admitted c.in_ok-around_child.field-0 c.args.around.items st c.deref-2.ensures.value c.in_ok-around_child.ensures.before c.in_ok-around_child.ensures.behind c.in_ok-push.ensures.items c.requires.fitting c.requires.fits in
    search rules

pub place_in_children-returns-in_err-sums-clause-children : goal.place_in_children-returns-in_err-sums-clause-children
place_in_children-returns-in_err-sums-clause-children g t' c =
    let st = step c.args.height c.in-Some.place.0 c.in-Some.place.1 c.args.count c.args.from c.args.entries.items c.requires.children c.deref.ensures.value c.in-Some.ensures.some c.index_mut.ensures.value in
    step_children st c.in_err-sums.ensures.placing

pub place_in_children-returns-in_err-sums-clause-placing : goal.place_in_children-returns-in_err-sums-clause-placing
place_in_children-returns-in_err-sums-clause-placing g t' c =
    let st = step c.args.height c.in-Some.place.0 c.in-Some.place.1 c.args.count c.args.from c.args.entries.items c.requires.children c.deref.ensures.value c.in-Some.ensures.some c.index_mut.ensures.value in
    let kept = ap (inner_seen c.args.height) (step_same st c.in_err-sums.ensures.placing) in
    search rules

pub place_in_children-returns-in-Done-clause-children : goal.place_in_children-returns-in-Done-clause-children
place_in_children-returns-in-Done-clause-children g t' c =
    let st = step c.args.height c.in-Some.place.0 c.in-Some.place.1 c.args.count c.args.from c.args.entries.items c.requires.children c.deref.ensures.value c.in-Some.ensures.some c.index_mut.ensures.value in
    let done = rw c.in-Done.is at c.in_ok-sums.ensures.placing in
    (step_placed st done.0).0

pub place_in_children-returns-in-Done-clause-placing : goal.place_in_children-returns-in-Done-clause-placing
place_in_children-returns-in-Done-clause-placing g t' c =
    let st = step c.args.height c.in-Some.place.0 c.in-Some.place.1 c.args.count c.args.from c.args.entries.items c.requires.children c.deref.ensures.value c.in-Some.ensures.some c.index_mut.ensures.value in
    let done = rw c.in-Done.is at c.in_ok-sums.ensures.placing in
    ((step_placed st done.0).1, done.1 ∙ step_sums g.met.T.Summary.Summary.laws g.T.Item.sum_of g.met.T.Item.admitted c.in_ok-around_child.field-0 c.args.around.items st c.deref-2.ensures.value c.in_ok-around_child.ensures.before c.in_ok-around_child.ensures.behind c.in_ok-push.ensures.items)

pub place_in_children-pair_in_place-requires-clause-children : goal.place_in_children-pair_in_place-requires-clause-children
place_in_children-pair_in_place-requires-clause-children g t' c =
    let st = step c.args.height c.in-Some.place.0 c.in-Some.place.1 c.args.count c.args.from c.args.entries.items c.requires.children c.deref.ensures.value c.in-Some.ensures.some c.index_mut.ensures.value in
    let split = rw c.in-Split.is at c.in_ok-sums.ensures.placing in
    step_children st split.0

pub place_in_children-pair_in_place-requires-clause-front : goal.place_in_children-pair_in_place-requires-clause-front
place_in_children-pair_in_place-requires-clause-front g t' c =
    let st = step c.args.height c.in-Some.place.0 c.in-Some.place.1 c.args.count c.args.from c.args.entries.items c.requires.children c.deref.ensures.value c.in-Some.ensures.some c.index_mut.ensures.value in
    let split = rw c.in-Split.is at c.in_ok-sums.ensures.placing in
    let pair = step_pair c.in-Split.front c.in-Split.back st split.0 split.1 in
    pair.front

pub place_in_children-pair_in_place-requires-clause-back : goal.place_in_children-pair_in_place-requires-clause-back
place_in_children-pair_in_place-requires-clause-back g t' c =
    let st = step c.args.height c.in-Some.place.0 c.in-Some.place.1 c.args.count c.args.from c.args.entries.items c.requires.children c.deref.ensures.value c.in-Some.ensures.some c.index_mut.ensures.value in
    let split = rw c.in-Split.is at c.in_ok-sums.ensures.placing in
    let pair = step_pair c.in-Split.front c.in-Split.back st split.0 split.1 in
    pair.back

pub place_in_children-pair_in_place-requires-clause-short : goal.place_in_children-pair_in_place-requires-clause-short
place_in_children-pair_in_place-requires-clause-short g t' c =
    let st = step c.args.height c.in-Some.place.0 c.in-Some.place.1 c.args.count c.args.from c.args.entries.items c.requires.children c.deref.ensures.value c.in-Some.ensures.some c.index_mut.ensures.value in
    let split = rw c.in-Split.is at c.in_ok-sums.ensures.placing in
    let pair = step_pair c.in-Split.front c.in-Split.back st split.0 split.1 in
    subst (λ (zs : List _). length zs ≤ 2 ^ 40) (sym pair.items) c.requires.short

pub place_in_children-pair_in_place-requires-clause-fits : goal.place_in_children-pair_in_place-requires-clause-fits
place_in_children-pair_in_place-requires-clause-fits g t' c =
    let st = step c.args.height c.in-Some.place.0 c.in-Some.place.1 c.args.count c.args.from c.args.entries.items c.requires.children c.deref.ensures.value c.in-Some.ensures.some c.index_mut.ensures.value in
    let split = rw c.in-Split.is at c.in_ok-sums.ensures.placing in
    let pair = step_pair c.in-Split.front c.in-Split.back st split.0 split.1 in
    subst (λ (zs : List _). g.T.Summary.Summary.fits (fold g.T.Summary.Summary.empty g.T.Summary.Summary.op g.T.Item.sum_of zs)) (sym pair.items) c.requires.fits

pub place_in_children-returns-in-Split-clause-placing : goal.place_in_children-returns-in-Split-clause-placing
place_in_children-returns-in-Split-clause-placing g t' c =
    let st = step c.args.height c.in-Some.place.0 c.in-Some.place.1 c.args.count c.args.from c.args.entries.items c.requires.children c.deref.ensures.value c.in-Some.ensures.some c.index_mut.ensures.value in
    let split = rw c.in-Split.is at c.in_ok-sums.ensures.placing in
    let pair = step_pair c.in-Split.front c.in-Split.back st split.0 split.1 in
    let sums = step_sums g.met.T.Summary.Summary.laws g.T.Item.sum_of g.met.T.Item.admitted c.in_ok-around_child.field-0 c.args.around.items st c.deref-2.ensures.value c.in_ok-around_child.ensures.before c.in_ok-around_child.ensures.behind c.in_ok-push.ensures.items in
    placing_moved c.args.height c.in-Split.sums.items _ c.args.children.now.items _ _ _ c.args.entries.items _ _ (split.2 ∙ sums) pair.same pair.items (c.pair_in_place.ensures.placing c.args.entries.items)

pub place_in_children-returns-in-Back-clause-children : goal.place_in_children-returns-in-Back-clause-children
place_in_children-returns-in-Back-clause-children g t' c =
    let st = step c.args.height c.in-Some.place.0 c.in-Some.place.1 c.args.count c.args.from c.args.entries.items c.requires.children c.deref.ensures.value c.in-Some.ensures.some c.index_mut.ensures.value in
    let back = rw c.in-Back.is at c.in_ok-sums.ensures.placing in
    step_children st back.0

pub place_in_children-returns-in-Back-clause-placing : goal.place_in_children-returns-in-Back-clause-placing
place_in_children-returns-in-Back-clause-placing g t' c =
    let st = step c.args.height c.in-Some.place.0 c.in-Some.place.1 c.args.count c.args.from c.args.entries.items c.requires.children c.deref.ensures.value c.in-Some.ensures.some c.index_mut.ensures.value in
    let back = rw c.in-Back.is at c.in_ok-sums.ensures.placing in
    (ap (inner_seen c.args.height) (step_same st back.0), back.1)

pub place_here-place_in-requires : goal.place_here-place_in-requires
place_here-place_in-requires g t c κs within =
    let fewer : 3 * c.in-Some.node.now.height + 1 < 3 * c.args.self.now.height + 2 = omega (arith, node_height c.in-Some.ensures.value c.self.view_is) in
    search rules

pub place_in_children-returns-in_err-sums-clause-cost : goal.place_in_children-returns-in_err-sums-clause-cost
place_in_children-returns-in_err-sums-clause-cost g t' c =
    let st = step c.args.height c.in-Some.place.0 c.in-Some.place.1 c.args.count c.args.from c.args.entries.items c.requires.children c.deref.ensures.value c.in-Some.ensures.some c.index_mut.ensures.value in
    omega (arith, st.child.lower, c.place_here.ensures.cost)

pub place_in_children-returns-in-Done-clause-cost : goal.place_in_children-returns-in-Done-clause-cost
place_in_children-returns-in-Done-clause-cost g t' c =
    let st = step c.args.height c.in-Some.place.0 c.in-Some.place.1 c.args.count c.args.from c.args.entries.items c.requires.children c.deref.ensures.value c.in-Some.ensures.some c.index_mut.ensures.value in
    omega (arith, st.child.lower, c.place_here.ensures.cost)

pub place_in_children-returns-in-Split-clause-cost : goal.place_in_children-returns-in-Split-clause-cost
place_in_children-returns-in-Split-clause-cost g t' c =
    let st = step c.args.height c.in-Some.place.0 c.in-Some.place.1 c.args.count c.args.from c.args.entries.items c.requires.children c.deref.ensures.value c.in-Some.ensures.some c.index_mut.ensures.value in
    omega (arith, st.child.lower, c.place_here.ensures.cost, c.pair_in_place.ensures.cost)

pub place_in_children-returns-in-Back-clause-cost : goal.place_in_children-returns-in-Back-clause-cost
place_in_children-returns-in-Back-clause-cost g t' c =
    let st = step c.args.height c.in-Some.place.0 c.in-Some.place.1 c.args.count c.args.from c.args.entries.items c.requires.children c.deref.ensures.value c.in-Some.ensures.some c.index_mut.ensures.value in
    omega (arith, st.child.lower, c.place_here.ensures.cost)

pub place_here-returns-in_err-placing-clause-cost : goal.place_here-returns-in_err-placing-clause-cost
place_here-returns-in_err-placing-clause-cost g t c =
    omega (arith, node_height c.in-Some.ensures.value c.self.view_is, c.place_in.ensures.cost)

pub place_here-returns-clause-cost : goal.place_here-returns-clause-cost
place_here-returns-clause-cost g t c =
    omega (arith, node_height c.in-Some.ensures.value c.self.view_is, c.place_in.ensures.cost)
