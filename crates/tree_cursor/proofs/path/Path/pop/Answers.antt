use Rattle.std.proofs.Common.{ap, refl, sym, rules, ◌+◌, ◌++◌, ◌∙◌, arith, length}
use Rattle.std.specs.Prelude.{reverse}
use Rattle.std.proofs.lemmas.Grind.{common_steps}
use Rattle.std.proofs.lemmas.List.{length-reverse}
use Rattle.tree_cursor.specs.Rest.{Rest}
use Rattle.tree_cursor.specs.Levels.{left_items, left_looks, left_work, items_left, work_left}
use Rattle.tree_cursor.proofs.Levels.{level_split, takes_inner, takes_split}
use Rattle.tree_cursor.proofs.path.Path.pop.Goals as goal

pub invariant_of-self : goal.invariant_of-self
invariant_of-self g c =
    let i = c.loop-part.self-inside in
    let levels = c.loop-part.invariant.2 in
    (level_split (reverse i.above.items) i.level c.in-Some.rest c.in-Some.part levels.0 c.in-Some.ensures, levels.1)

pub returns-in-Some-clause-part : goal.returns-in-Some-clause-part
returns-in-Some-clause-part g c =
    let i = c.loop-part.self-inside in
    takes_split (reverse i.above.items) i.level c.in-Some.rest c.in-Some.part c.args.self.now record { items = left_items c.in-Some.rest ++ items_left (reverse i.above.items); inner = left_items c.in-Some.rest; depth = length i.above.items; work = left_work c.in-Some.rest + work_left (reverse i.above.items); looks = left_looks c.in-Some.rest } c.loop-part.invariant.2.0 c.in-Some.ensures (sym c.loop-part.invariant.0) (sym c.loop-part.invariant.1) refl refl (sym (length-reverse i.above.items))

pub returns-in-Some-clause-inner : goal.returns-in-Some-clause-inner
returns-in-Some-clause-inner g c =
    let i = c.loop-part.self-inside in
    takes_inner (reverse i.above.items) i.level c.in-Some.rest c.in-Some.part c.args.self.now record { items = left_items c.in-Some.rest ++ items_left (reverse i.above.items); inner = left_items c.in-Some.rest; depth = length i.above.items; work = left_work c.in-Some.rest + work_left (reverse i.above.items); looks = left_looks c.in-Some.rest } c.loop-part.invariant.2.0 c.in-Some.ensures c.loop-part.invariant.3 refl refl

pub loop-part-init : goal.loop-part-init
loop-part-init g c =
    let v = c.self.view_is in
    (ap (λ (r : Rest _). r.items) v, ap (λ (r : Rest _). r.work) v, c.self.invariant, λ some. (ap (λ (r : Rest _). r.inner) v, ap (λ (r : Rest _). r.looks) v), refl)

pub loop-part-preserved : goal.loop-part-preserved
loop-part-preserved g c = (
  grind (arith, common_steps),
  grind (arith, common_steps),
  grind (arith, common_steps),
  λ some. absurd (some (sym (c.loop-part.invariant.3 some).0 ∙ c.in_default.ensures.0)),
  search rules,
)
