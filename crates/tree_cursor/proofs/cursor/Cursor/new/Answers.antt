use Rattle.std.proofs.Common.{◌≡◌, subst, arith}
use Rattle.tree_cursor.specs.Halts.{IsAt}
use Rattle.tree_cursor.proofs.Counts.{over_passes}
use Rattle.tree_cursor.proofs.cursor.Cursor.new.Goals as goal

pub invariant_of-result : goal.invariant_of-result
invariant_of-result g c =
    let S = g.T.Summary.Summary in
    let w = c.walk-halt in
    let start = g.D.Plain.plain c.args.start in
    let none : w.result.passed ≡ 0 = omega (arith, w.ensures.passed, over_passes g.D.Moves.moved g.T.Item.sum_of 0 start 0 c.new-path.result.items) in
    let at = subst (IsAt g.D.Moves.moved g.D.Moves.fits S.empty S.op g.T.Item.sum_of c.new-path.result.items start w.new.path.items w.result.item (g.D.Plain.plain w.result.start) (g.D.Plain.plain w.result.end)) none w.ensures.at in
    (c.requires, subst (λ xs. IsAt g.D.Moves.moved g.D.Moves.fits S.empty S.op g.T.Item.sum_of xs start w.new.path.items w.result.item (g.D.Plain.plain w.result.start) (g.D.Plain.plain w.result.end) 0) c.new-path.ensures.items at)
