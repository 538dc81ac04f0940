use Rattle.std.proofs.Common.{◌≡◌, ℕ, ◌+◌, ◌-◌, ap, sym, ◌∙◌, arith, take, drop}
use Rattle.tree_cursor.proofs.cursor.cut.Goals as goal
use Rattle.std.proofs.lemmas.List.{drop-take}

pub returns : goal.returns
returns g c =
    let all = c.args.tree.now.items in
    let far : c.args.first + (c.args.end - c.args.first) ≡ c.args.end = omega (arith, c.requires) in
    c.in_ok-drop_front.ensures ∙ ap (drop c.args.first) c.in_ok-front.ensures ∙ ap (λ (n : ℕ). drop c.args.first (take n all)) (sym far) ∙ drop-take c.args.first (c.args.end - c.args.first) all
