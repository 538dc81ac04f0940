use Rattle.std.proofs.Common.{length, ap, arith, [], ◌∷◌, length-append}
use Rattle.std.proofs.lemmas.List.Elements.{All-rest}
use Rattle.std.specs.Vec.Iter.{into_iter_items}
use Rattle.sum_tree.specs.Shape.{IsChild, join_items}
use Rattle.sum_tree.specs.Groups.{elements, IsGroup}
use Rattle.sum_tree.proofs.Runs.{fits_middle, first_of, All_push, next_level}
use Rattle.sum_tree.proofs.Widths.{leaf_is_child}
use Rattle.sum_tree.proofs.list.leaf_level.Goals as goal

pub leaf-requires-clause-fits : goal.leaf-requires-clause-fits
leaf-requires-clause-fits g c =
    let left = into_iter_items c.loop-group.group-iterator in
    let rest = into_iter_items c.next.new.self in
    fits_middle g.met.T.Summary.Summary.laws g.T.Item.sum_of g.met.T.Item.admitted (join_items c.loop-group.nodes.items) (elements left) c.in-Some.group.items (elements rest) (elements c.args.groups.items) c.loop-group.invariant.2 (ap elements c.in-Some.ensures.steps.0) c.requires.fits

pub loop-group-preserved : goal.loop-group-preserved
loop-group-preserved g c =
    let left = into_iter_items c.loop-group.group-iterator in
    let rest = into_iter_items c.next.new.self in
    let size = first_of IsGroup left c.in-Some.group rest c.in-Some.ensures.steps.0 c.loop-group.invariant.3 in
    let child : IsChild 1 c.in_ok-leaf.field-0 = leaf_is_child c.in-Some.group.items c.in_ok-leaf.field-0 c.in_ok-leaf.ensures.items c.in_ok-leaf.ensures.height c.in_ok-leaf.ensures.width size.0 size.1 in (
      tt,
      tt,
      next_level c.loop-group.nodes.items c.push.new.self.items c.in_ok-leaf.field-0 (elements left) c.in-Some.group.items (elements rest) (elements c.args.groups.items) c.in_ok-push.ensures.items c.in_ok-leaf.ensures.items (ap elements c.in-Some.ensures.steps.0) c.loop-group.invariant.2,
      All-rest IsGroup c.in-Some.group rest left c.in-Some.ensures.steps.0 c.loop-group.invariant.3,
      All_push (IsChild 1) c.loop-group.nodes.items c.in_ok-leaf.field-0 c.push.new.self.items c.in_ok-push.ensures.items c.loop-group.invariant.4 child,
      omega (arith, ap length c.in_ok-push.ensures.items, length-append c.loop-group.nodes.items (c.in_ok-leaf.field-0 ∷ []), ap length c.in-Some.ensures.steps.0, c.loop-group.invariant.5),
      omega (arith, ap length c.in_ok-push.ensures.items, length-append c.loop-group.nodes.items (c.in_ok-leaf.field-0 ∷ []), c.leaf.ensures.cost, c.loop-group.invariant.6),
    )

pub returns-in_err-leaf-clause-cost : goal.returns-in_err-leaf-clause-cost
returns-in_err-leaf-clause-cost g c = omega (arith, ap length c.in-Some.ensures.steps.0, c.leaf.ensures.cost, c.loop-group.invariant.5, c.loop-group.invariant.6)

pub returns-in_err-push-clause-cost : goal.returns-in_err-push-clause-cost
returns-in_err-push-clause-cost g c = omega (arith, ap length c.in-Some.ensures.steps.0, c.leaf.ensures.cost, c.loop-group.invariant.5, c.loop-group.invariant.6)
