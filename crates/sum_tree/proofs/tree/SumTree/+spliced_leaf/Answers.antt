use Rattle.std.proofs.Common.{rules, ◌+◌, ◌-◌, ◌<◌, length, drop, inl, sym, subst, ap, arith}
use Rattle.std.proofs.lemmas.List.{length-take, length-drop}
use Rattle.sum_tree.specs.Seen.{Seen}
use Rattle.sum_tree.specs.Spliced.{IsReturn}
use Rattle.sum_tree.specs.declared.splice.Splicing.{Splicing}
use Rattle.sum_tree.proofs.Opened.{opened}
use Rattle.sum_tree.proofs.Nodes.{node_height, leaf_of}
use Rattle.sum_tree.proofs.Lists.{spliced_length}
use Rattle.sum_tree.proofs.Descents.{node_step, step_short, step_fits, step_items, step_piece}
use Rattle.sum_tree.proofs.Splices.{split_spliced, leaf_spliced}
use Rattle.sum_tree.proofs.tree.SumTree.+spliced_leaf.Goals as goal

pub spliced_leaf-requires : goal.spliced_leaf-requires
spliced_leaf-requires g t' c κs within' =
    let st = node_step c.in-Some.place.0 c.in-Some.place.1 c.args.count c.args.from c.args.entries.items c.self.view_is c.deref.ensures c.in-Inner.is c.self.invariant.0 c.deref-in-Inner.ensures.value c.in-Some.ensures.some c.index.ensures in
    let within = st.within in
    let lower : c.index.result.now.height < c.args.self.now.height = omega (arith, st.child.lower) in
    let short = step_short st c.requires.short in
    let fits = step_fits g.met.T.Summary.Summary.laws g.T.Item.sum_of g.met.T.Item.admitted st c.requires.fits in
    search rules

pub mend-requires-clause-short : goal.mend-requires-clause-short
mend-requires-clause-short g t' c =
    let st = node_step c.in-Some.place.0 c.in-Some.place.1 c.args.count c.args.from c.args.entries.items c.self.view_is c.deref.ensures c.in-Inner.is c.self.invariant.0 c.deref-in-Inner.ensures.value c.in-Some.ensures.some c.index.ensures in
    let done = rw c.in-Done.is at c.in_ok-entries-in-Inner.ensures.splicing in
    let same = step_items c.in-Done.front c.in-Done.back st done in
    rw (c.deref-in-Done-2.ensures.value, same) c.requires.short

pub mend-requires-clause-fits : goal.mend-requires-clause-fits
mend-requires-clause-fits g t' c =
    let st = node_step c.in-Some.place.0 c.in-Some.place.1 c.args.count c.args.from c.args.entries.items c.self.view_is c.deref.ensures c.in-Inner.is c.self.invariant.0 c.deref-in-Inner.ensures.value c.in-Some.ensures.some c.index.ensures in
    let done = rw c.in-Done.is at c.in_ok-entries-in-Inner.ensures.splicing in
    let same = step_items c.in-Done.front c.in-Done.back st done in
    rw (c.deref-in-Done-2.ensures.value, same) c.requires.fits

pub returns-in_ok-front-in-Done-clause-splicing : goal.returns-in_ok-front-in-Done-clause-splicing
returns-in_ok-front-in-Done-clause-splicing g t' c =
    let st = node_step c.in-Some.place.0 c.in-Some.place.1 c.args.count c.args.from c.args.entries.items c.self.view_is c.deref.ensures c.in-Inner.is c.self.invariant.0 c.deref-in-Inner.ensures.value c.in-Some.ensures.some c.index.ensures in
    let done = rw c.in-Done.is at c.in_ok-entries-in-Inner.ensures.splicing in
    let same = step_items c.in-Done.front c.in-Done.back st done in
    rw (st.inner.width, ← same, ← c.deref-in-Done-2.ensures.value) (search rules)

pub returns-in_ok-front-in-Leaf-clause-splicing : goal.returns-in_ok-front-in-Leaf-clause-splicing
returns-in_ok-front-in-Leaf-clause-splicing g t' c =
    let leaf = leaf_of c.self.view_is c.deref.ensures c.in-Leaf.is c.self.invariant.0 in
    let all = leaf_spliced c.args.from (c.args.from + c.args.count) c.args.self.now.items c.in-Leaf.old.items c.deref-in-Leaf.result.now c.deref-in-Leaf-2.result.now c.args.entries.items c.in_ok-all-in-Leaf.all.items leaf.items c.deref-in-Leaf.ensures.value c.deref-in-Leaf-2.ensures.value c.in_ok-all-in-Leaf.ensures in
    split_spliced 0 c.args.self.now.height (length c.in_ok-all-in-Leaf.all.items) c.args.self.now.width c.in_ok-all-in-Leaf.all.items _ c.in_ok-front-in-Leaf.front c.in_ok-front-in-Leaf.back (sym leaf.low) all c.in_ok-front-in-Leaf.ensures.split

pub mend-requires-clause-children : goal.mend-requires-clause-children
mend-requires-clause-children g t' c =
    let inner = opened _ _ _ _ c.self.view_is c.deref.ensures c.in-Inner.is c.self.invariant.0 in
    rw (node_height c.deref-in-Done.ensures c.self.view_is, c.deref-in-Done-2.ensures.value) inner.children

pub mend-requires-clause-least : goal.mend-requires-clause-least
mend-requires-clause-least g t' c =
    let inner = opened _ _ _ _ c.self.view_is c.deref.ensures c.in-Inner.is c.self.invariant.0 in
    rw c.deref-in-Done-2.ensures.value inner.least

pub mend-requires-clause-most : goal.mend-requires-clause-most
mend-requires-clause-most g t' c =
    let inner = opened _ _ _ _ c.self.view_is c.deref.ensures c.in-Inner.is c.self.invariant.0 in
    rw c.deref-in-Done-2.ensures.value inner.most

pub mend-requires-clause-within : goal.mend-requires-clause-within
mend-requires-clause-within g t' c =
    let st = node_step c.in-Some.place.0 c.in-Some.place.1 c.args.count c.args.from c.args.entries.items c.self.view_is c.deref.ensures c.in-Inner.is c.self.invariant.0 c.deref-in-Inner.ensures.value c.in-Some.ensures.some c.index.ensures in
    rw c.deref-in-Done-2.ensures.value st.lt

pub mend-requires-clause-pair : goal.mend-requires-clause-pair
mend-requires-clause-pair g t' c =
    let st = node_step c.in-Some.place.0 c.in-Some.place.1 c.args.count c.args.from c.args.entries.items c.self.view_is c.deref.ensures c.in-Inner.is c.self.invariant.0 c.deref-in-Inner.ensures.value c.in-Some.ensures.some c.index.ensures in
    let done = rw c.in-Done.is at c.in_ok-entries-in-Inner.ensures.splicing in
    rw (node_height c.deref-in-Done.ensures c.self.view_is) (step_piece c.in-Done.front c.in-Done.back st done)

pub three_parts-requires-clause-front : goal.three_parts-requires-clause-front
three_parts-requires-clause-front g t' c =
    let leaf = leaf_of c.self.view_is c.deref.ensures c.in-Leaf.is c.self.invariant.0 in
    omega (arith, length-take c.args.from c.deref-in-Leaf.result.now, ap length c.deref-in-Leaf.ensures.value, leaf.few)

pub three_parts-requires-clause-back : goal.three_parts-requires-clause-back
three_parts-requires-clause-back g t' c =
    let leaf = leaf_of c.self.view_is c.deref.ensures c.in-Leaf.is c.self.invariant.0 in
    omega (arith, length-take (length c.deref-in-Leaf-2.result.now - (c.args.from + c.args.count)) (drop (c.args.from + c.args.count) c.deref-in-Leaf-2.result.now), length-drop (c.args.from + c.args.count) c.deref-in-Leaf-2.result.now, ap length c.deref-in-Leaf-2.ensures.value, leaf.few)

pub leaves-requires-clause-most : goal.leaves-requires-clause-most
leaves-requires-clause-most g t' c =
    let leaf = leaf_of c.self.view_is c.deref.ensures c.in-Leaf.is c.self.invariant.0 in
    let all = leaf_spliced c.args.from (c.args.from + c.args.count) c.args.self.now.items c.in-Leaf.old.items c.deref-in-Leaf.result.now c.deref-in-Leaf-2.result.now c.args.entries.items c.in_ok-all-in-Leaf.all.items leaf.items c.deref-in-Leaf.ensures.value c.deref-in-Leaf-2.ensures.value c.in_ok-all-in-Leaf.ensures in
    omega (arith, ap length all, spliced_length c.args.from c.args.count c.args.entries.items c.args.self.now.items c.requires.within, ap length leaf.items, leaf.few, c.args.entries.ok)

pub leaves-requires-clause-fits : goal.leaves-requires-clause-fits
leaves-requires-clause-fits g t' c =
    let leaf = leaf_of c.self.view_is c.deref.ensures c.in-Leaf.is c.self.invariant.0 in
    let all = leaf_spliced c.args.from (c.args.from + c.args.count) c.args.self.now.items c.in-Leaf.old.items c.deref-in-Leaf.result.now c.deref-in-Leaf-2.result.now c.args.entries.items c.in_ok-all-in-Leaf.all.items leaf.items c.deref-in-Leaf.ensures.value c.deref-in-Leaf-2.ensures.value c.in_ok-all-in-Leaf.ensures in
    rw all c.requires.fits

pub returns-in_err-entries-in-Inner-clause-cost : goal.returns-in_err-entries-in-Inner-clause-cost
returns-in_err-entries-in-Inner-clause-cost g t' c =
    let st = node_step c.in-Some.place.0 c.in-Some.place.1 c.args.count c.args.from c.args.entries.items c.self.view_is c.deref.ensures c.in-Inner.is c.self.invariant.0 c.deref-in-Inner.ensures.value c.in-Some.ensures.some c.index.ensures in
    omega (arith, st.child.lower, c.spliced_leaf.ensures.cost)

pub returns-in-Back-clause-cost : goal.returns-in-Back-clause-cost
returns-in-Back-clause-cost g t' c =
    let st = node_step c.in-Some.place.0 c.in-Some.place.1 c.args.count c.args.from c.args.entries.items c.self.view_is c.deref.ensures c.in-Inner.is c.self.invariant.0 c.deref-in-Inner.ensures.value c.in-Some.ensures.some c.index.ensures in
    omega (arith, st.child.lower, c.spliced_leaf.ensures.cost)

pub returns-in_err-front-in-Done-clause-cost : goal.returns-in_err-front-in-Done-clause-cost
returns-in_err-front-in-Done-clause-cost g t' c =
    let st = node_step c.in-Some.place.0 c.in-Some.place.1 c.args.count c.args.from c.args.entries.items c.self.view_is c.deref.ensures c.in-Inner.is c.self.invariant.0 c.deref-in-Inner.ensures.value c.in-Some.ensures.some c.index.ensures in
    omega (arith, st.child.lower, c.spliced_leaf.ensures.cost, c.mend.ensures.cost)

pub returns-in_ok-front-in-Done-clause-cost : goal.returns-in_ok-front-in-Done-clause-cost
returns-in_ok-front-in-Done-clause-cost g t' c =
    let st = node_step c.in-Some.place.0 c.in-Some.place.1 c.args.count c.args.from c.args.entries.items c.self.view_is c.deref.ensures c.in-Inner.is c.self.invariant.0 c.deref-in-Inner.ensures.value c.in-Some.ensures.some c.index.ensures in
    omega (arith, st.child.lower, c.spliced_leaf.ensures.cost, c.mend.ensures.cost)

pub returns-in-None-clause-returned : goal.returns-in-None-clause-returned
returns-in-None-clause-returned g t' c =
    let inner = opened _ _ _ _ c.self.view_is c.deref.ensures c.in-Inner.is c.self.invariant.0 in
    inl (c.child_with.ensures.none c.in-None.is (rw c.deref-in-Inner.ensures.value (omega (arith, inner.least))) (rw (c.deref-in-Inner.ensures.value, ← inner.items) c.requires.within))

pub returns-in-Back-clause-returned : goal.returns-in-Back-clause-returned
returns-in-Back-clause-returned g t' c =
    subst (λ (q : Splicing (Seen _) _). IsReturn c.args.count c.args.entries.items q) c.in-Back.is c.in_ok-entries-in-Inner.ensures.returned
