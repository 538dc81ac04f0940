use Rattle.std.proofs.Common.{◌≡◌, ap, ◌∙◌, arith}
use Rattle.tree_cursor.specs.Place.{CursorState}
use Rattle.tree_cursor.proofs.Bounds.{cut_bound}
use Rattle.tree_cursor.proofs.cursor.Cursor.slice_counted.Goals as goal

pub returns-in-Ok-clause-cost : goal.returns-in-Ok-clause-cost
returns-in-Ok-clause-cost g c =
    let height : c.self-2.inside.tree.now.height ≡ c.args.self.now.height = ap (λ (p : CursorState _ _). p.height) (c.self-2.view_is ∙ c.seek.ensures.moved) in
    omega (arith, c.cut_counted.ensures.cost, height, cut_bound c.args.self.now.height)

pub returns-in-Err-clause-cost : goal.returns-in-Err-clause-cost
returns-in-Err-clause-cost g c =
    let height : c.self-2.inside.tree.now.height ≡ c.args.self.now.height = ap (λ (p : CursorState _ _). p.height) (c.self-2.view_is ∙ c.seek.ensures.moved) in
    omega (arith, c.cut_counted.ensures.cost, height, cut_bound c.args.self.now.height)
