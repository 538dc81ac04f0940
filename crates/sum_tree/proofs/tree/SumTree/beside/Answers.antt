use Rattle.std.proofs.Common.{◌+◌, length, sym}
use Rattle.std.proofs.lemmas.Result.{IfOk-weaker}
use Rattle.sum_tree.proofs.Nodes.{leaf_of, node_height}
use Rattle.sum_tree.proofs.Besides.{JoinsInners, joins_leaves, joins_inners}
use Rattle.sum_tree.proofs.Opened.{opened}
use Rattle.sum_tree.proofs.Widths.{appended, split_as}
use Rattle.sum_tree.proofs.tree.SumTree.beside.Given.{Over}
use Rattle.sum_tree.proofs.tree.SumTree.beside.Goals.{In_ok-share_onto-in-Inner-Inner-2}
use Rattle.sum_tree.proofs.tree.SumTree.beside.Goals as goal

-- the copied children are those of both
inner_pair : (g : Over) (c : In_ok-share_onto-in-Inner-Inner-2 g) → JoinsInners c.args.self.now c.args.other.now c.share_onto-in-Inner-Inner.new.out.items
inner_pair g c =
    joins_inners (opened _ _ _ _ c.self.view_is c.deref.ensures c.in-Inner-Inner.is-0 c.self.invariant.0) (opened _ _ _ _ c.other.view_is c.deref-2.ensures c.in-Inner-Inner.is-1 c.other.invariant.0) c.requires.level (appended _ _ _ _ _ _ _ c.in_ok-children-in-Inner-Inner.ensures.items c.in_ok-share_onto-in-Inner-Inner.ensures c.in_ok-share_onto-in-Inner-Inner-2.ensures c.deref-in-Inner-Inner.ensures.value c.deref-in-Inner-Inner-2.ensures.value)

pub leaves-requires-clause-most : goal.leaves-requires-clause-most
leaves-requires-clause-most g c =
    let joined = joins_leaves (leaf_of c.self.view_is c.deref.ensures c.in-Leaf-Leaf.is-0 c.self.invariant.0) (leaf_of c.other.view_is c.deref-2.ensures c.in-Leaf-Leaf.is-1 c.other.invariant.0) (appended _ _ _ _ _ _ _ c.in_ok-entries-in-Leaf-Leaf.ensures.items c.in_ok-copy_onto-in-Leaf-Leaf.ensures c.in_ok-copy_onto-in-Leaf-Leaf-2.ensures c.deref-in-Leaf-Leaf.ensures.value c.deref-in-Leaf-Leaf-2.ensures.value) in
    joined.few

pub leaves-requires-clause-fits : goal.leaves-requires-clause-fits
leaves-requires-clause-fits g c =
    let joined = joins_leaves (leaf_of c.self.view_is c.deref.ensures c.in-Leaf-Leaf.is-0 c.self.invariant.0) (leaf_of c.other.view_is c.deref-2.ensures c.in-Leaf-Leaf.is-1 c.other.invariant.0) (appended _ _ _ _ _ _ _ c.in_ok-entries-in-Leaf-Leaf.ensures.items c.in_ok-copy_onto-in-Leaf-Leaf.ensures c.in_ok-copy_onto-in-Leaf-Leaf-2.ensures c.deref-in-Leaf-Leaf.ensures.value c.deref-in-Leaf-Leaf-2.ensures.value) in
    rw joined.items c.requires.fits

pub returns-in_ok-copy_onto-in-Leaf-Leaf-2-clause-split : goal.returns-in_ok-copy_onto-in-Leaf-Leaf-2-clause-split
returns-in_ok-copy_onto-in-Leaf-Leaf-2-clause-split g c =
    let joined = joins_leaves (leaf_of c.self.view_is c.deref.ensures c.in-Leaf-Leaf.is-0 c.self.invariant.0) (leaf_of c.other.view_is c.deref-2.ensures c.in-Leaf-Leaf.is-1 c.other.invariant.0) (appended _ _ _ _ _ _ _ c.in_ok-entries-in-Leaf-Leaf.ensures.items c.in_ok-copy_onto-in-Leaf-Leaf.ensures c.in_ok-copy_onto-in-Leaf-Leaf-2.ensures c.deref-in-Leaf-Leaf.ensures.value c.deref-in-Leaf-Leaf-2.ensures.value) in
    IfOk-weaker c.leaves.result _ _ (λ p q. split_as 0 c.args.self.now.height (length c.copy_onto-in-Leaf-Leaf.new.out.items) (c.args.self.now.width + c.args.other.now.width) _ _ p.0 p.1 (sym joined.low) joined.wide joined.items q) c.leaves.ensures.split

pub inners-requires-clause-children : goal.inners-requires-clause-children
inners-requires-clause-children g c =
    let joined = inner_pair g (goal.at.inners-requires-clause-children g c).In_ok-share_onto-in-Inner-Inner-2 in
    rw (node_height c.deref-in-Inner-Inner-3.ensures c.self.view_is) joined.children

pub inners-requires-clause-least : goal.inners-requires-clause-least
inners-requires-clause-least g c =
    let joined = inner_pair g (goal.at.inners-requires-clause-least g c).In_ok-share_onto-in-Inner-Inner-2 in
    joined.least

pub inners-requires-clause-most : goal.inners-requires-clause-most
inners-requires-clause-most g c =
    let joined = inner_pair g (goal.at.inners-requires-clause-most g c).In_ok-share_onto-in-Inner-Inner-2 in
    joined.few

pub inners-requires-clause-short : goal.inners-requires-clause-short
inners-requires-clause-short g c =
    let joined = inner_pair g (goal.at.inners-requires-clause-short g c).In_ok-share_onto-in-Inner-Inner-2 in
    rw joined.items c.requires.short

pub inners-requires-clause-fits : goal.inners-requires-clause-fits
inners-requires-clause-fits g c =
    let joined = inner_pair g (goal.at.inners-requires-clause-fits g c).In_ok-share_onto-in-Inner-Inner-2 in
    rw joined.items c.requires.fits

pub returns-in_ok-share_onto-in-Inner-Inner-2-clause-split : goal.returns-in_ok-share_onto-in-Inner-Inner-2-clause-split
returns-in_ok-share_onto-in-Inner-Inner-2-clause-split g c =
    let joined = inner_pair g (goal.at.returns-in_ok-share_onto-in-Inner-Inner-2-clause-split g c).In_ok-share_onto-in-Inner-Inner-2 in
    IfOk-weaker c.inners.result _ _ (λ p q. split_as c.deref-in-Inner-Inner-3.result.now.height c.args.self.now.height (length c.share_onto-in-Inner-Inner.new.out.items) (c.args.self.now.width + c.args.other.now.width) _ _ p.0 p.1 (node_height c.deref-in-Inner-Inner-3.ensures c.self.view_is) joined.wide joined.items q) c.inners.ensures.split
