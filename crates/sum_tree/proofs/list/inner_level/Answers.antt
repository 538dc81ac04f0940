use Rattle.std.proofs.Common.{◌+◌, length, ap, subst, arith, ◌∙◌, List, [], ◌∷◌, length-append}
use Rattle.std.specs.List.{All}
use Rattle.std.proofs.lemmas.List.Elements.{All-rest}
use Rattle.std.specs.Vec.Iter.{into_iter_items}
use Rattle.sum_tree.specs.Shape.{IsChild, join_items}
use Rattle.sum_tree.specs.Groups.{elements, IsGroup}
use Rattle.sum_tree.proofs.Children.{joined-append}
use Rattle.sum_tree.proofs.Runs.{fits_middle, first_of, All_push, All_right, next_level, inner_child}
use Rattle.sum_tree.proofs.list.inner_level.Goals as goal

pub inner-requires-clause-fits : goal.inner-requires-clause-fits
inner-requires-clause-fits g c =
    let left = into_iter_items c.loop-group.group-iterator in
    let rest = into_iter_items c.next.new.self in
    let split = ap (λ gs. join_items (elements gs)) c.in-Some.ensures.steps.0 ∙ joined-append c.in-Some.group.items (elements rest) in
    fits_middle g.met.T.Summary.Summary.laws g.T.Item.sum_of g.met.T.Item.admitted (join_items c.loop-group.nodes.items) (join_items (elements left)) (join_items c.in-Some.group.items) (join_items (elements rest)) (join_items (elements c.args.groups.items)) c.loop-group.invariant.2 split c.requires.fits

pub loop-group-preserved : goal.loop-group-preserved
loop-group-preserved g c =
    let left = into_iter_items c.loop-group.group-iterator in
    let rest = into_iter_items c.next.new.self in
    let n = c.in_ok-inner.field-0 in
    let split = ap (λ gs. join_items (elements gs)) c.in-Some.ensures.steps.0 ∙ joined-append c.in-Some.group.items (elements rest) in
    let size = first_of IsGroup left c.in-Some.group rest c.in-Some.ensures.steps.0 c.loop-group.invariant.3 in
    let child : IsChild (c.args.height + 1) n = inner_child c.args.height n c.in-Some.group c.in_ok-inner.ensures.height c.in_ok-inner.ensures.width c.in_ok-inner.ensures.many size in (
      tt,
      tt,
      next_level c.loop-group.nodes.items c.push.new.self.items n (join_items (elements left)) (join_items c.in-Some.group.items) (join_items (elements rest)) (join_items (elements c.args.groups.items)) c.in_ok-push.ensures.items c.in_ok-inner.ensures.items split c.loop-group.invariant.2,
      All-rest IsGroup c.in-Some.group rest left c.in-Some.ensures.steps.0 c.loop-group.invariant.3,
      All_right (IsChild c.args.height) c.in-Some.group.items (elements rest) (subst (λ (ts : List _). All (IsChild c.args.height) ts) (ap elements c.in-Some.ensures.steps.0) c.loop-group.invariant.4),
      All_push (IsChild (c.args.height + 1)) c.loop-group.nodes.items n c.push.new.self.items c.in_ok-push.ensures.items c.loop-group.invariant.5 child,
      omega (arith, ap length c.in_ok-push.ensures.items, length-append c.loop-group.nodes.items (n ∷ []), ap length c.in-Some.ensures.steps.0, c.loop-group.invariant.6),
      omega (arith, ap length c.in_ok-push.ensures.items, length-append c.loop-group.nodes.items (n ∷ []), c.inner.ensures.cost, c.loop-group.invariant.7),
    )

pub returns-in_err-inner-clause-cost : goal.returns-in_err-inner-clause-cost
returns-in_err-inner-clause-cost g c = omega (arith, ap length c.in-Some.ensures.steps.0, c.inner.ensures.cost, c.loop-group.invariant.6, c.loop-group.invariant.7)

pub returns-in_err-push-clause-cost : goal.returns-in_err-push-clause-cost
returns-in_err-push-clause-cost g c = omega (arith, ap length c.in-Some.ensures.steps.0, c.inner.ensures.cost, c.loop-group.invariant.6, c.loop-group.invariant.7)
