use Rattle.std.proofs.Common.{◌≡◌, ◌-◌, [], ◌++◌, length, reverse, List, arith, ap, subst}
use Rattle.std.proofs.lemmas.List.{nil_from_length, length-take, length-drop}
use Rattle.sum_tree.specs.Groups.{elements, IsGroup}
use Rattle.sum_tree.proofs.Runs.{cut_last, All_push, All_reverse, few_groups, enough_groups}
use Rattle.std.proofs.lemmas.Grind.{common_steps}
use Rattle.sum_tree.proofs.list.groups.Goals as goal

pub loop-items-preserved : goal.loop-items-preserved
loop-items-preserved g c =
    let old = c.loop-items.items.items in
    let first = c.len-in-loop-items.result - c.last_run.result in
    let v = c.in_ok-split_off.field-0 in
    let size : length v.items ≡ c.last_run.result = omega (arith, ap length c.in_ok-split_off.ensures.tail, length-drop first old, c.len-in-loop-items.ensures, c.last_run.ensures.within, c.len-in-loop-items-2.ensures, c.loop-items.items.ok) in (
      cut_last old c.split_off.new.self.items c.args.items.items v c.loop-items.groups.items c.push.new.self.items first c.in_ok-split_off.ensures.items c.in_ok-split_off.ensures.tail c.in_ok-push.ensures.items c.loop-items.invariant.0,
      All_push IsGroup c.loop-items.groups.items v c.push.new.self.items c.in_ok-push.ensures.items c.loop-items.invariant.1 (omega (arith, size, c.last_run.ensures.least), omega (arith, size, c.last_run.ensures.most)),
      λ more. omega (arith, more, ap length c.in_ok-split_off.ensures.items, length-take first old, c.last_run.ensures.rest, c.len-in-loop-items.ensures, c.len-in-loop-items-2.ensures, c.loop-items.items.ok),
    )

pub returns-clause-few : goal.returns-clause-few
returns-clause-few g c =
    let gs = c.loop-items.groups.items in
    let nil : c.loop-items.items.items ≡ [] = nil_from_length c.loop-items.items.items (grind (arith, common_steps)) in
    let whole : elements (reverse gs) ≡ c.args.items.items = subst (λ (xs : List _). xs ++ elements (reverse gs) ≡ c.args.items.items) nil c.loop-items.invariant.0 in
    rw c.reverse.ensures.items (omega (arith, ap length whole, few_groups (reverse gs) (All_reverse IsGroup gs c.loop-items.invariant.1)))

pub returns-clause-enough : goal.returns-clause-enough
returns-clause-enough g c =
    let gs = c.loop-items.groups.items in
    let nil : c.loop-items.items.items ≡ [] = nil_from_length c.loop-items.items.items (grind (arith, common_steps)) in
    let whole : elements (reverse gs) ≡ c.args.items.items = subst (λ (xs : List _). xs ++ elements (reverse gs) ≡ c.args.items.items) nil c.loop-items.invariant.0 in
    rw c.reverse.ensures.items (omega (arith, ap length whole, enough_groups (reverse gs) (All_reverse IsGroup gs c.loop-items.invariant.1)))
