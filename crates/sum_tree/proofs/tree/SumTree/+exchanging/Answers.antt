use Rattle.std.proofs.Common.{rules, ◌≡◌, List, ◌+◌, ◌*◌, ◌^◌, ◌<◌, ◌≤◌, length, ap, sym, subst, ◌∙◌, arith}
use Rattle.sum_tree.specs.Laws.{fold}
use Rattle.sum_tree.specs.Seen.{Seen}
use Rattle.sum_tree.specs.Shape.{IsContent, content_items, node_view}
use Rattle.sum_tree.specs.Exchange.{AreSums}
use Rattle.sum_tree.specs.Placed.{AreChildren, inner_seen}
use Rattle.sum_tree.specs.Spliced.{splice_list}
use Rattle.sum_tree.specs.declared.tree.Content.{Content}
use Rattle.sum_tree.proofs.Nodes.{node_height}
use Rattle.sum_tree.proofs.Placeds.{placing_moved}
use Rattle.sum_tree.proofs.Descents.{step, step_short, step_same, step_children, step_fits, step_placed, step_pair}
use Rattle.sum_tree.proofs.Exchanging.{step_both, pair_forth, exchanged}
use Rattle.sum_tree.proofs.tree.SumTree.+exchanging.Goals as goal

pub exchange_in-exchange_in_children-requires : goal.exchange_in-exchange_in_children-requires
exchange_in-exchange_in_children-requires g t c κs within =
    let h = c.args.height in
    let is = c.in-Inner.is in
    let i = c.args.from in
    let j = c.args.from + c.args.count in
    let ys = c.args.entries.items in
    let children : AreChildren h c.in-Inner.children.items = subst (λ (q : Content _ _). IsContent h q) is c.requires.content in
    let inside = subst (λ (q : Content _ _). j ≤ length (content_items q)) is c.requires.within in
    let short = subst (λ (q : Content _ _). length (splice_list i j ys (content_items q)) ≤ 2 ^ 40) is c.requires.short in
    let fits = subst (λ (q : Content _ _). g.T.Summary.Summary.fits (fold g.T.Summary.Summary.empty g.T.Summary.Summary.op g.T.Item.sum_of (splice_list i j ys (content_items q)))) is c.requires.fits in
    let sums = subst (λ (q : Content _ _). AreSums g.T.Summary.Summary.empty g.T.Summary.Summary.op g.T.Item.sum_of i c.args.count ys (content_items q) c.args.sums.now) is c.requires.sums in
    search rules

pub exchange_in_children-exchange_here-requires : goal.exchange_in_children-exchange_here-requires
exchange_in_children-exchange_here-requires g t' c κs within' =
    let st = step c.args.height c.in-Some.place.0 c.in-Some.place.1 c.args.count c.args.from c.args.entries.items c.requires.children c.deref.ensures.value c.in-Some.ensures.some c.index_mut.ensures.value in
    let wide : 6 ≤ c.index_mut.result.now.width = st.child.wide in
    let fewer : 4 * c.index_mut.result.now.height + 3 < 4 * c.args.height = omega (arith, st.child.lower) in
    let within = st.within in
    let short = step_short st c.requires.short in
    let fits = step_fits g.met.T.Summary.Summary.laws g.T.Item.sum_of g.met.T.Item.admitted st c.requires.fits in
    let sums = step_both c.args.sums.now st c.requires.sums in
    search rules

pub exchange_in_children-returns-in_err-none-clause-children : goal.exchange_in_children-returns-in_err-none-clause-children
exchange_in_children-returns-in_err-none-clause-children g t' c =
    let st = step c.args.height c.in-Some.place.0 c.in-Some.place.1 c.args.count c.args.from c.args.entries.items c.requires.children c.deref.ensures.value c.in-Some.ensures.some c.index_mut.ensures.value in
    step_children st c.in_err-none.ensures.placing

pub exchange_in_children-returns-in_err-none-clause-placing : goal.exchange_in_children-returns-in_err-none-clause-placing
exchange_in_children-returns-in_err-none-clause-placing g t' c =
    let st = step c.args.height c.in-Some.place.0 c.in-Some.place.1 c.args.count c.args.from c.args.entries.items c.requires.children c.deref.ensures.value c.in-Some.ensures.some c.index_mut.ensures.value in
    let kept = ap (inner_seen c.args.height) (step_same st c.in_err-none.ensures.placing) in
    search rules

pub exchange_in_children-returns-in-Done-clause-children : goal.exchange_in_children-returns-in-Done-clause-children
exchange_in_children-returns-in-Done-clause-children g t' c =
    let st = step c.args.height c.in-Some.place.0 c.in-Some.place.1 c.args.count c.args.from c.args.entries.items c.requires.children c.deref.ensures.value c.in-Some.ensures.some c.index_mut.ensures.value in
    let done = rw c.in-Done.is at c.in_ok-none.ensures.placing in
    (step_placed st done.0).0

pub exchange_in_children-returns-in-Done-clause-placing : goal.exchange_in_children-returns-in-Done-clause-placing
exchange_in_children-returns-in-Done-clause-placing g t' c =
    let st = step c.args.height c.in-Some.place.0 c.in-Some.place.1 c.args.count c.args.from c.args.entries.items c.requires.children c.deref.ensures.value c.in-Some.ensures.some c.index_mut.ensures.value in
    let done = rw c.in-Done.is at c.in_ok-none.ensures.placing in
    ((step_placed st done.0).1, done.1)

pub exchange_in_children-pair_in_place-requires-clause-children : goal.exchange_in_children-pair_in_place-requires-clause-children
exchange_in_children-pair_in_place-requires-clause-children g t' c =
    let st = step c.args.height c.in-Some.place.0 c.in-Some.place.1 c.args.count c.args.from c.args.entries.items c.requires.children c.deref.ensures.value c.in-Some.ensures.some c.index_mut.ensures.value in
    let split = rw c.in-Split.is at c.in_ok-none.ensures.placing in
    step_children st split.0

pub exchange_in_children-pair_in_place-requires-clause-front : goal.exchange_in_children-pair_in_place-requires-clause-front
exchange_in_children-pair_in_place-requires-clause-front g t' c =
    let st = step c.args.height c.in-Some.place.0 c.in-Some.place.1 c.args.count c.args.from c.args.entries.items c.requires.children c.deref.ensures.value c.in-Some.ensures.some c.index_mut.ensures.value in
    let split = rw c.in-Split.is at c.in_ok-none.ensures.placing in
    let pair = step_pair c.in-Split.front c.in-Split.back st split.0 split.1 in
    pair.front

pub exchange_in_children-pair_in_place-requires-clause-back : goal.exchange_in_children-pair_in_place-requires-clause-back
exchange_in_children-pair_in_place-requires-clause-back g t' c =
    let st = step c.args.height c.in-Some.place.0 c.in-Some.place.1 c.args.count c.args.from c.args.entries.items c.requires.children c.deref.ensures.value c.in-Some.ensures.some c.index_mut.ensures.value in
    let split = rw c.in-Split.is at c.in_ok-none.ensures.placing in
    let pair = step_pair c.in-Split.front c.in-Split.back st split.0 split.1 in
    pair.back

pub exchange_in_children-pair_in_place-requires-clause-short : goal.exchange_in_children-pair_in_place-requires-clause-short
exchange_in_children-pair_in_place-requires-clause-short g t' c =
    let st = step c.args.height c.in-Some.place.0 c.in-Some.place.1 c.args.count c.args.from c.args.entries.items c.requires.children c.deref.ensures.value c.in-Some.ensures.some c.index_mut.ensures.value in
    let split = rw c.in-Split.is at c.in_ok-none.ensures.placing in
    let pair = step_pair c.in-Split.front c.in-Split.back st split.0 split.1 in
    subst (λ (zs : List _). length zs ≤ 2 ^ 40) (sym pair.items) c.requires.short

pub exchange_in_children-pair_in_place-requires-clause-fits : goal.exchange_in_children-pair_in_place-requires-clause-fits
exchange_in_children-pair_in_place-requires-clause-fits g t' c =
    let st = step c.args.height c.in-Some.place.0 c.in-Some.place.1 c.args.count c.args.from c.args.entries.items c.requires.children c.deref.ensures.value c.in-Some.ensures.some c.index_mut.ensures.value in
    let split = rw c.in-Split.is at c.in_ok-none.ensures.placing in
    let pair = step_pair c.in-Split.front c.in-Split.back st split.0 split.1 in
    subst (λ (zs : List _). g.T.Summary.Summary.fits (fold g.T.Summary.Summary.empty g.T.Summary.Summary.op g.T.Item.sum_of zs)) (sym pair.items) c.requires.fits

pub exchange_in_children-returns-in-Split-clause-placing : goal.exchange_in_children-returns-in-Split-clause-placing
exchange_in_children-returns-in-Split-clause-placing g t' c =
    let st = step c.args.height c.in-Some.place.0 c.in-Some.place.1 c.args.count c.args.from c.args.entries.items c.requires.children c.deref.ensures.value c.in-Some.ensures.some c.index_mut.ensures.value in
    let split = rw c.in-Split.is at c.in_ok-none.ensures.placing in
    let pair = step_pair c.in-Split.front c.in-Split.back st split.0 split.1 in
    placing_moved c.args.height c.in-Split.none.items _ c.args.children.now.items _ _ _ c.args.entries.items _ _ split.2 pair.same pair.items (c.pair_in_place.ensures.placing c.args.entries.items)

pub exchange_in_children-returns-in-Split-clause-back : goal.exchange_in_children-returns-in-Split-clause-back
exchange_in_children-returns-in-Split-clause-back g t' c =
    let st = step c.args.height c.in-Some.place.0 c.in-Some.place.1 c.args.count c.args.from c.args.entries.items c.requires.children c.deref.ensures.value c.in-Some.ensures.some c.index_mut.ensures.value in
    let split = rw c.in-Split.is at c.in_ok-none.ensures.placing in
    let pair = step_pair c.in-Split.front c.in-Split.back st split.0 split.1 in
    pair_forth _ _ _ _ _ _ c.args.height c.in-Split.front c.pair_in_place.result pair.front c.pair_in_place.ensures.placing

pub exchange_in_children-returns-in-Back-clause-children : goal.exchange_in_children-returns-in-Back-clause-children
exchange_in_children-returns-in-Back-clause-children g t' c =
    let st = step c.args.height c.in-Some.place.0 c.in-Some.place.1 c.args.count c.args.from c.args.entries.items c.requires.children c.deref.ensures.value c.in-Some.ensures.some c.index_mut.ensures.value in
    let back = rw c.in-Back.is at c.in_ok-none.ensures.placing in
    step_children st back.0

pub exchange_in_children-returns-in-Back-clause-placing : goal.exchange_in_children-returns-in-Back-clause-placing
exchange_in_children-returns-in-Back-clause-placing g t' c =
    let st = step c.args.height c.in-Some.place.0 c.in-Some.place.1 c.args.count c.args.from c.args.entries.items c.requires.children c.deref.ensures.value c.in-Some.ensures.some c.index_mut.ensures.value in
    let back = rw c.in-Back.is at c.in_ok-none.ensures.placing in
    (ap (inner_seen c.args.height) (step_same st back.0), back.1)

pub exchange_in_children-returns-in_err-none-clause-cost : goal.exchange_in_children-returns-in_err-none-clause-cost
exchange_in_children-returns-in_err-none-clause-cost g t' c =
    let st = step c.args.height c.in-Some.place.0 c.in-Some.place.1 c.args.count c.args.from c.args.entries.items c.requires.children c.deref.ensures.value c.in-Some.ensures.some c.index_mut.ensures.value in
    omega (arith, st.child.lower, c.exchange_here.ensures.cost)

pub exchange_in_children-returns-in-Done-clause-cost : goal.exchange_in_children-returns-in-Done-clause-cost
exchange_in_children-returns-in-Done-clause-cost g t' c =
    let st = step c.args.height c.in-Some.place.0 c.in-Some.place.1 c.args.count c.args.from c.args.entries.items c.requires.children c.deref.ensures.value c.in-Some.ensures.some c.index_mut.ensures.value in
    omega (arith, st.child.lower, c.exchange_here.ensures.cost)

pub exchange_in_children-returns-in-Back-clause-cost : goal.exchange_in_children-returns-in-Back-clause-cost
exchange_in_children-returns-in-Back-clause-cost g t' c =
    let st = step c.args.height c.in-Some.place.0 c.in-Some.place.1 c.args.count c.args.from c.args.entries.items c.requires.children c.deref.ensures.value c.in-Some.ensures.some c.index_mut.ensures.value in
    omega (arith, st.child.lower, c.exchange_here.ensures.cost)

pub exchange_in_children-returns-in-Split-clause-cost : goal.exchange_in_children-returns-in-Split-clause-cost
exchange_in_children-returns-in-Split-clause-cost g t' c =
    let st = step c.args.height c.in-Some.place.0 c.in-Some.place.1 c.args.count c.args.from c.args.entries.items c.requires.children c.deref.ensures.value c.in-Some.ensures.some c.index_mut.ensures.value in
    omega (arith, st.child.lower, c.exchange_here.ensures.cost, c.pair_in_place.ensures.cost)

pub exchange_in_children-returns-in-Back-clause-back : goal.exchange_in_children-returns-in-Back-clause-back
exchange_in_children-returns-in-Back-clause-back g t' c =
    let st = step c.args.height c.in-Some.place.0 c.in-Some.place.1 c.args.count c.args.from c.args.entries.items c.requires.children c.deref.ensures.value c.in-Some.ensures.some c.index_mut.ensures.value in
    let few = rw c.in-Back.is at c.in_ok-none.ensures.back in
    omega (arith, st.child.lower, few)

pub exchange_owned-exchange_in-requires : goal.exchange_owned-exchange_in-requires
exchange_owned-exchange_in-requires g t c κs within =
    let m = c.in-Some.node.now in
    let fewer : 4 * m.height + 1 < 4 * c.args.self.now.height + 2 = omega (arith, node_height c.in-Some.ensures.value c.self.view_is) in
    let items : content_items m.content ≡ c.args.self.now.items = ap (λ (q : Seen _). q.items) (ap node_view c.in-Some.ensures.value ∙ c.self.view_is) in
    search rules

pub exchange_here-exchange_owned-requires : goal.exchange_here-exchange_owned-requires
exchange_here-exchange_owned-requires g t c κs within =
    let same : c.own.new.tree ≡ c.args.self.now = c.own.ensures.same in
    let fewer : 4 * c.own.new.tree.height + 2 < 4 * c.args.self.now.height + 3 = omega (arith, ap (λ (q : Seen _). q.height) same) in
    let is = rw c.in-Some.is at c.in_ok-exchange.ensures in
    let sum = exchanged g.met.T.Summary.Summary.laws g.T.Item.sum_of g.met.T.Item.admitted c.args.from c.args.count c.args.entries.items c.args.self.now.items c.summary.result.now c.in-Some.sum c.args.sums.now c.summary.ensures c.requires.sums is in
    rw same (search rules)
