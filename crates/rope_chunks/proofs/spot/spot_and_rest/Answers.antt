use Rattle.std.proofs.Common.{◌≤◌, ◌+◌, ◌-◌, ◌∙◌, ◌++◌, length, ap, arith, subst, sym, get_or, take, drop}
use Rattle.std.specs.List.{concat}
use Rattle.std.proofs.lemmas.List.{take_rest}
use Rattle.sum_tree.specs.Seen.{Seen}
use Rattle.sum_tree.proofs.Children.{child_filled, joined-take_le}
use Rattle.rope_chunks.proofs.Spots.{part_whole, part_child, part_entry, part_rest, part_short}
use Rattle.rope_chunks.proofs.spot.spot_and_rest.Goals as goal

pub loop-entries-init : goal.loop-entries-init
loop-entries-init c = part_whole c.args.tree.now.items c.args.offset c.requires.some c.requires.within

pub returns-in-Leaf-clause-spot : goal.returns-in-Leaf-clause-spot
returns-in-Leaf-clause-spot c =
    let x = c.index-entries-k.result in
    let fits : c.entry_at-k.result.1 ≤ length x = omega (arith, c.entry_at-k.ensures.within x, ap length c.index-entries-k.is) in
    rw c.item.ensures
    (part_entry c.args.tree.now.items c.in-Leaf.entries.now c.loop-entries.node.now.items c.loop-entries.before c.loop-entries.rest c.args.offset c.entry_at-k.result.0 c.entry_at-k.result.1 x c.loop-entries.invariant c.in-Leaf.ensures.0 c.entry_at-k.ensures.entry c.index-entries-k.is c.entry_at-k.ensures.before fits)

pub returns-in-Leaf-clause-rest : goal.returns-in-Leaf-clause-rest
returns-in-Leaf-clause-rest c =
    let es = c.in-Leaf.entries.now in
    let k = c.entry_at-k.result.0 in
    let cs = c.args.tree.now.items in
    ap (λ xs. xs ++ drop (c.loop-entries.before + length es) cs) (take_rest es (k + 1))
    ∙ part_rest cs es c.loop-entries.node.now.items c.loop-entries.before c.loop-entries.rest c.args.offset k c.loop-entries.invariant c.in-Leaf.ensures.0 c.entry_at-k.ensures.entry

pub overflow_add-before : goal.overflow_add-before
overflow_add-before c =
    let node = c.loop-entries.node.now in
    omega (arith, part_short c.args.tree.now.items node.items c.loop-entries.before c.loop-entries.rest c.args.offset c.loop-entries.invariant, c.child_at-k.ensures.count, joined-take_le c.in-Inner.children.now c.child_at-k.result.0, ap length c.in-Inner.ensures.0, c.known.ensures.short)

pub loop-entries-preserved : goal.loop-entries-preserved
loop-entries-preserved c =
    let node = c.loop-entries.node.now in
    let ts = c.in-Inner.children.now in
    let t = c.index-children-k.result in
    let fits : c.child_at-k.result.2 ≤ length (concat t.items) = omega (arith, c.child_at-k.ensures.within t, ap (λ (u : Seen _). length (concat u.items)) c.index-children-k.is) in
    let some = subst (λ (u : Seen _). 1 ≤ length u.items) (sym c.index-children-k.is) (child_filled node.height (get_or ts c.child_at-k.result.0 t) (c.in-Inner.ensures.2 c.child_at-k.result.0 t c.child_at-k.ensures.child)) in
    part_child c.args.tree.now.items node.items ts c.loop-entries.before c.loop-entries.rest c.args.offset c.child_at-k.result.0 c.child_at-k.result.1 c.child_at-k.result.2 t c.loop-entries.invariant c.in-Inner.ensures.0 c.child_at-k.ensures.child c.index-children-k.is c.child_at-k.ensures.count c.child_at-k.ensures.before fits some
