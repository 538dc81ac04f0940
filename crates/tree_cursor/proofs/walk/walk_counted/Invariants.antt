use Rattle.std.proofs.Common.{◌≡◌, ◌+◌}
use Rattle.tree_cursor.specs.Places.{AlwaysAdds, walk_count}
use Rattle.tree_cursor.specs.Rules.{LooksAtEnds}
use Rattle.tree_cursor.specs.Walking.{IsDescending, IsWalking}
use Rattle.tree_cursor.proofs.walk.walk_counted.Given as goal

abbrev pub invariant-loop-part : goal.invariant-loop-part
invariant-loop-part g l =
    let S = g.T.Summary.Summary in
    let halts = g.R.Rule.halts l.rule in
    let start = g.D.Plain.plain l.fn.start in
    let goal = walk_count g.D.Moves.moved g.T.Item.sum_of halts start 0 l.fn.path.items in
    IsWalking g.D.Moves.moved g.D.Moves.fits S.empty S.op g.T.Item.sum_of halts l.fn.path.items start l.path.items (g.D.Plain.plain l.at) l.passed goal × (AlwaysAdds g.D.Moves.moved → LooksAtEnds halts → l.fn.path.items ≡ l.fn.path.inner → IsDescending l.path (g.C.Tally.count l.steps) (g.C.Tally.count l.fn.steps + l.fn.path.looks) l.passed goal)

abbrev pub decreases-loop-part : goal.decreases-loop-part
decreases-loop-part g l = l.path.work
