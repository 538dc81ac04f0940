use Rattle.std.proofs.Common.{◌≡◌, ◌≤◌, ap, subst, arith, length}
use Rattle.tree_cursor.proofs.Counts.{over_passes}
use Rattle.tree_cursor.specs.Halts.{IsAt}
use Rattle.tree_cursor.proofs.cursor.Cursor.go_to.Goals as goal

pub invariant_of-self : goal.invariant_of-self
invariant_of-self g c =
    let i = c.self.inside in
    let w = c.walk-self-inside in
    let S = g.T.Summary.Summary in
    let from = g.D.Plain.plain i.from in
    let xs = c.new-self-inside.result.items in
    let within : c.args.index ≤ length i.tree.now.items = omega (arith, c.requires, ap (λ p. length p.items) c.self.view_is) in
    let all : w.result.passed ≡ c.args.index = grind (arith, within, ap length c.new-self-inside.ensures.items, w.ensures.passed, over_passes g.D.Moves.moved g.T.Item.sum_of c.args.index from 0 xs) in
    let at = subst (IsAt g.D.Moves.moved g.D.Moves.fits S.empty S.op g.T.Item.sum_of xs from w.new.path.items w.result.item (g.D.Plain.plain w.result.start) (g.D.Plain.plain w.result.end)) all w.ensures.at in
    (c.self.invariant.0, subst (λ ys. IsAt g.D.Moves.moved g.D.Moves.fits S.empty S.op g.T.Item.sum_of ys from w.new.path.items w.result.item (g.D.Plain.plain w.result.start) (g.D.Plain.plain w.result.end) c.args.index) c.new-self-inside.ensures.items at)
