use Rattle.std.proofs.Common.{◌≡◌, ap, arith}
use Rattle.tree_cursor.specs.Place.{CursorState}
use Rattle.tree_cursor.proofs.Bounds.{cut_bound}
use Rattle.tree_cursor.proofs.cursor.Cursor.suffix_counted.Goals as goal

pub returns-in_err-rest-clause-cost : goal.returns-in_err-rest-clause-cost
returns-in_err-rest-clause-cost g c =
    let height : c.self.inside.tree.now.height ≡ c.args.self.now.height = ap (λ (p : CursorState _ _). p.height) c.self.view_is in
    omega (arith, c.drop_front_counted.ensures.cost, height, cut_bound c.args.self.now.height)

pub returns-clause-cost : goal.returns-clause-cost
returns-clause-cost g c =
    let height : c.self.inside.tree.now.height ≡ c.args.self.now.height = ap (λ (p : CursorState _ _). p.height) c.self.view_is in
    omega (arith, c.drop_front_counted.ensures.cost, height, cut_bound c.args.self.now.height)
