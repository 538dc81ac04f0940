use Rattle.std.proofs.Common.{◌≡◌, ℕ, ◌+◌, ◌-◌, ap, sym, ◌∙◌, arith, take, drop}
use Rattle.std.proofs.lemmas.Result.{IfOk-weaker}
use Rattle.tree_cursor.proofs.cursor.cut_counted.Goals as goal
use Rattle.std.proofs.lemmas.List.{drop-take}

pub returns-clause-items : goal.returns-clause-items
returns-clause-items g c =
    let all = c.args.tree.now.items in
    let far : c.args.first + (c.args.end - c.args.first) ≡ c.args.end = omega (arith, c.requires) in
    let cut = ap (drop c.args.first) c.in_ok-front.ensures.items ∙ ap (λ (n : ℕ). drop c.args.first (take n all)) (sym far) ∙ drop-take c.args.first (c.args.end - c.args.first) all in
    IfOk-weaker c.drop_front_counted.result _ _ (λ t e. e ∙ cut) c.drop_front_counted.ensures.items

pub returns-clause-cost : goal.returns-clause-cost
returns-clause-cost g c = omega (arith, c.take_front_counted.ensures.cost, c.in_ok-front.ensures.height, c.drop_front_counted.ensures.cost)
