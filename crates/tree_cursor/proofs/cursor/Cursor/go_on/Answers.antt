use Rattle.std.proofs.Common.{◌≡◌, ◌+◌, min, ap, refl, arith, length}
use Rattle.tree_cursor.proofs.Counts.{over_passes, placed}
use Rattle.tree_cursor.proofs.Walks.{behind_item, walks_on, none_at}
use Rattle.tree_cursor.proofs.cursor.Cursor.go_on.Goals as goal

pub walk-self-inside-requires : goal.walk-self-inside-requires
walk-self-inside-requires g c κs =
    (omega arith, ((refl, tt), (omega (arith, (behind_item c.self.invariant.1 c.in-Some.is).0, c.known.ensures.short), c.self.invariant.1.room)))

pub invariant_of-self : goal.invariant_of-self
invariant_of-self g c =
    let i = c.self.inside in
    let w = c.walk-self-inside in
    let none : w.result.passed ≡ 0 = omega (arith, w.ensures.passed, over_passes g.D.Moves.moved g.T.Item.sum_of 0 (g.D.Plain.plain i.halt.end) 0 i.path.items) in
    (c.self.invariant.0, walks_on c.self.invariant.1 c.in-Some.is w.ensures.at (omega (arith, none)))

pub returns-in-Some : goal.returns-in-Some
returns-in-Some g c =
    let i = c.self.inside in
    let here : i.index + 1 ≡ min (i.index + 1) (length i.tree.now.items) = grind (arith, (behind_item c.self.invariant.1 c.in-Some.is).0) in
    rw (← c.self.view_is) (ap (placed i.tree.now.items i.tree.now.height i.from) here)

pub returns-in_default : goal.returns-in_default
returns-in_default g c =
    let i = c.self.inside in
    let n = none_at c.self.invariant.1 c.in_default.is in
    let here : i.index ≡ min (i.index + 1) (length i.tree.now.items) = grind (arith, n.0) in
    rw (← c.self.view_is) (ap (placed i.tree.now.items i.tree.now.height i.from) here)
