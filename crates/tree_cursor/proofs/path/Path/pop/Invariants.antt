use Rattle.std.proofs.Common.{◌≡◌, ◌≢◌, [], length}
use Rattle.std.specs.Prelude.{reverse, ◌∷◌}
use Rattle.tree_cursor.specs.Levels.{items_left, left_items, left_looks, work_left, AreLevels}
use Rattle.tree_cursor.proofs.path.Path.pop.Given as goal

abbrev pub invariant-loop-part : goal.invariant-loop-part
invariant-loop-part g l =
    let ls = l.self-inside.level ∷ reverse l.self-inside.above.items in
    (items_left ls ≡ l.fn.self.items) × (work_left ls ≡ l.fn.self.work) × AreLevels ls × (l.fn.self.inner ≢ [] → (left_items l.self-inside.level ≡ l.fn.self.inner) × (left_looks l.self-inside.level ≡ l.fn.self.looks)) × (g.C.Tally.count l.steps ≡ g.C.Tally.count l.fn.steps)

abbrev pub decreases-loop-part : goal.decreases-loop-part
decreases-loop-part g l = length l.self-inside.above.items
