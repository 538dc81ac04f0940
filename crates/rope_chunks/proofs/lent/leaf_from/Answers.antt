use Rattle.std.proofs.Common.{◌-◌, ◌<◌, ◌∙◌, length, take, drop, ap, subst, sym}
use Rattle.sum_tree.specs.Seen.{Seen}
use Rattle.std.proofs.lemmas.List.{take_rest}
use Rattle.rope_chunks.proofs.Tails.{tail_whole, tail_child, tail_rest}
use Rattle.rope_chunks.proofs.lent.leaf_from.Goals as goal

pub loop-entries-init : goal.loop-entries-init
loop-entries-init c = tail_whole c.args.tree.now.items c.args.index c.requires

pub loop-entries-preserved : goal.loop-entries-preserved
loop-entries-preserved c =
    let node = c.loop-entries.node.now in
    let ts = c.in-Inner.children.now in
    let t = c.index-children-k.result in
    let fits : c.child_at-k.result.1 < length t.items = subst (λ (u : Seen _). c.child_at-k.result.1 < length u.items) (sym c.index-children-k.is) (c.child_at-k.ensures.within t) in
    tail_child c.args.tree.now.items node.items ts c.loop-entries.rest c.args.index c.child_at-k.result.0 c.child_at-k.result.1 t c.loop-entries.invariant c.in-Inner.ensures.0 c.child_at-k.ensures.child c.index-children-k.is c.child_at-k.ensures.before fits

pub returns-in-Leaf-clause-rest : goal.returns-in-Leaf-clause-rest
returns-in-Leaf-clause-rest c =
    let es = c.in-Leaf.entries.now in
    let r = c.loop-entries.rest in
    tail_rest c.args.tree.now.items c.loop-entries.node.now.items (take (length es - r) (drop r es)) r c.args.index c.loop-entries.invariant (take_rest es r ∙ ap (λ xs. drop r xs) (sym c.in-Leaf.ensures.0))
