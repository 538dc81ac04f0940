use Rattle.std.proofs.Common.{rules, true, ℕ, ◌≡◌, ◌≤◌, List, Ok, Err, length, get_or, sym, ap, subst, arith}
use Rattle.std.specs.List.{All}
use Rattle.sum_tree.specs.Seen.{Seen}
use Rattle.sum_tree.specs.Shape.{join_items}
use Rattle.sum_tree.specs.Keyed.{Ascending, IsPlace}
use Rattle.sum_tree.proofs.Children.{child_filled, joined-take_le}
use Rattle.sum_tree.proofs.Opened.{opened}
use Rattle.sum_tree.proofs.Nodes.{leaf_items, inner_items}
use Rattle.sum_tree.proofs.Keys.{IsAround, around_all, around_ascending, around_length, around_child, around_within, place_ok, place_err, place_end}
use Rattle.sum_tree.proofs.tree.SumTree.position.Goals as goal

pub returns-then-all_before : goal.returns-then-all_before
returns-then-all_before g c =
    let xs = c.args.self.now.items in
    let yes : c.all_before.result ≡ true = search rules in
    subst (λ (m : ℕ). IsPlace g.T.Key.Ord.cmp g.T.KeyedItem.key_of c.args.key.now xs (Err m)) (sym c.len.ensures) (place_end g.T.Key.Ord.cmp g.T.KeyedItem.key_of g.met.T.Key.Ord.total c.args.key.now xs (c.all_before.ensures yes))

pub loop-entries-init : goal.loop-entries-init
loop-entries-init g c = around_all g.T.Key.Ord.cmp g.T.KeyedItem.key_of g.met.T.Key.Ord.total c.args.key.now c.args.self.now.items

pub place-requires : goal.place-requires
place-requires g c =
    let there = leaf_items c.node.view_is c.deref.ensures c.in-Leaf.is c.deref-in-Leaf.ensures.value in
    record { ascending = subst (λ (zs : List _). Ascending g.T.Key.Ord.cmp g.T.KeyedItem.key_of zs) (sym there) (around_ascending g.T.Key.Ord.cmp g.T.KeyedItem.key_of g.met.T.Key.Ord.total c.args.key.now c.args.self.now.items c.loop-entries.before c.loop-entries.node.now.items c.loop-entries.invariant c.requires.ascending) }

pub overflow_add-result : goal.overflow_add-result
overflow_add-result g c =
    let there = leaf_items c.node.view_is c.deref.ensures c.in-Leaf.is c.deref-in-Leaf.ensures.value in
    let size = around_length g.T.Key.Ord.cmp g.T.KeyedItem.key_of g.met.T.Key.Ord.total c.args.key.now c.args.self.now.items c.loop-entries.before c.loop-entries.node.now.items c.loop-entries.invariant in
    omega (arith, size, ap length there, c.in-Ok.ensures.0, c.known.ensures.short)

pub overflow_add-result-in-Err : goal.overflow_add-result-in-Err
overflow_add-result-in-Err g c =
    let there = leaf_items c.node.view_is c.deref.ensures c.in-Leaf.is c.deref-in-Leaf.ensures.value in
    let size = around_length g.T.Key.Ord.cmp g.T.KeyedItem.key_of g.met.T.Key.Ord.total c.args.key.now c.args.self.now.items c.loop-entries.before c.loop-entries.node.now.items c.loop-entries.invariant in
    omega (arith, size, ap length there, c.in-Err.ensures.0, c.known.ensures.short)

pub returns-in-Ok : goal.returns-in-Ok
returns-in-Ok g c =
    let there = leaf_items c.node.view_is c.deref.ensures c.in-Leaf.is c.deref-in-Leaf.ensures.value in
    place_ok g.T.Key.Ord.cmp g.T.KeyedItem.key_of g.met.T.Key.Ord.total c.args.key.now c.args.self.now.items c.loop-entries.before c.in-Ok.i c.loop-entries.node.now.items c.loop-entries.invariant (subst (λ (zs : List _). IsPlace g.T.Key.Ord.cmp g.T.KeyedItem.key_of c.args.key.now zs (Ok c.in-Ok.i)) there c.in-Ok.ensures)

pub returns-in-Err : goal.returns-in-Err
returns-in-Err g c =
    let there = leaf_items c.node.view_is c.deref.ensures c.in-Leaf.is c.deref-in-Leaf.ensures.value in
    place_err g.T.Key.Ord.cmp g.T.KeyedItem.key_of g.met.T.Key.Ord.total c.args.key.now c.args.self.now.items c.loop-entries.before c.in-Err.i c.loop-entries.node.now.items c.loop-entries.invariant (subst (λ (zs : List _). IsPlace g.T.Key.Ord.cmp g.T.KeyedItem.key_of c.args.key.now zs (Err c.in-Err.i)) there c.in-Err.ensures)

pub child_for-k-requires-clause-filled : goal.child_for-k-requires-clause-filled
child_for-k-requires-clause-filled g c =
    let inner = opened _ _ _ _ c.node.view_is c.deref.ensures c.in-Inner.is c.node.invariant.0 in
    subst (λ (ws : List (Seen _)). All (λ t. 1 ≤ length t.items) ws) (sym c.deref-in-Inner.ensures.value) (λ k d lt. child_filled c.loop-entries.node.now.height (get_or c.in-Inner.children.items k d) (inner.children k d lt))

pub child_for-k-requires-clause-ascending : goal.child_for-k-requires-clause-ascending
child_for-k-requires-clause-ascending g c =
    let there = inner_items c.node.view_is c.deref.ensures c.in-Inner.is c.node.invariant.0 c.deref-in-Inner.ensures.value in
    subst (λ (zs : List _). Ascending g.T.Key.Ord.cmp g.T.KeyedItem.key_of zs) (sym there) (around_ascending g.T.Key.Ord.cmp g.T.KeyedItem.key_of g.met.T.Key.Ord.total c.args.key.now c.args.self.now.items c.loop-entries.before c.loop-entries.node.now.items c.loop-entries.invariant c.requires.ascending)

pub overflow_add-before : goal.overflow_add-before
overflow_add-before g c =
    let there = inner_items c.node.view_is c.deref.ensures c.in-Inner.is c.node.invariant.0 c.deref-in-Inner.ensures.value in
    let size = around_length g.T.Key.Ord.cmp g.T.KeyedItem.key_of g.met.T.Key.Ord.total c.args.key.now c.args.self.now.items c.loop-entries.before c.loop-entries.node.now.items c.loop-entries.invariant in
    omega (arith, size, ap length there, c.child_for-k.ensures.count, joined-take_le c.deref-in-Inner.result.now c.child_for-k.result.0, c.known.ensures.short)

pub loop-entries-preserved : goal.loop-entries-preserved
loop-entries-preserved g c =
    let n = c.loop-entries.node.now in
    let us = c.deref-in-Inner.result.now in
    let there = inner_items c.node.view_is c.deref.ensures c.in-Inner.is c.node.invariant.0 c.deref-in-Inner.ensures.value in
    let t = c.index-node.result.now in
    let j = c.child_for-k.result.0 in
    let read : t ≡ get_or us j t = subst (λ (ws : List (Seen _)). t ≡ get_or ws j t) (sym c.deref-in-Inner.ensures.value) c.index-node.ensures in
    let here : IsAround g.T.Key.Ord.cmp g.T.KeyedItem.key_of c.args.key.now (join_items us) c.child_for-k.result.1 t.items = around_child g.T.Key.Ord.cmp g.T.KeyedItem.key_of g.met.T.Key.Ord.total c.args.key.now us c.child_for-k.result.1 j t c.child_for-k.ensures.child read c.child_for-k.ensures.count c.child_for-k.ensures.before c.child_for-k.ensures.behind in
    around_within g.T.Key.Ord.cmp g.T.KeyedItem.key_of g.met.T.Key.Ord.total c.args.key.now c.args.self.now.items n.items t.items c.loop-entries.before c.child_for-k.result.1 c.loop-entries.invariant (subst (λ (zs : List _). IsAround g.T.Key.Ord.cmp g.T.KeyedItem.key_of c.args.key.now zs c.child_for-k.result.1 t.items) there here)
