use Rattle.std.proofs.Common.{◌≡◌, ℕ, ◌+◌, ap, sym, ◌∙◌, refl, arith, take, drop}
use Rattle.tree_cursor.proofs.Counts.{placed, seek_passes}
use Rattle.tree_cursor.proofs.Walks.{behind_item, walks_on, seek_stays, seek_goes}
use Rattle.tree_cursor.specs.Places.{place_behind, seek_count}
use Rattle.tree_cursor.proofs.cursor.Cursor.pass.Goals as goal

pub walk-self-inside-requires : goal.walk-self-inside-requires
walk-self-inside-requires g c κs =
    (omega arith, ((refl, tt), (omega (arith, (behind_item c.self.invariant.1 c.in-Some.is).0, c.known.ensures.short), c.self.invariant.1.room)))

pub overflow_add-self : goal.overflow_add-self
overflow_add-self g c =
    omega (arith, (behind_item c.self.invariant.1 c.in-Some.is).0, c.known.ensures.short, c.walk-self-inside.ensures.at.within)

pub overflow_add-self-then-not-passed : goal.overflow_add-self-then-not-passed
overflow_add-self-then-not-passed g c =
    omega (arith, (behind_item c.self.invariant.1 c.in-Some.is).0, c.known.ensures.short, c.walk-self-inside.ensures.at.within)

pub invariant_of-self : goal.invariant_of-self
invariant_of-self g c =
    let w = c.walk-self-inside in
    (c.self.invariant.0, walks_on c.self.invariant.1 c.in-Some.is w.ensures.at (omega arith))

pub returns-then-not-passed : goal.returns-then-not-passed
returns-then-not-passed g c =
    let i = c.self.inside in
    let w = c.walk-self-inside in
    let stops = λ (p : g.row.D-Value.Denot). g.G.Target.passes c.args.target.now p c.args.bias in
    let count = w.ensures.passed ∙ seek_passes g.D.Moves.moved g.T.Item.sum_of stops (g.D.Plain.plain i.halt.end) 0 i.path.items in
    let goes = seek_goes stops c.self.invariant.1 c.in-Some.is (sym c.passed.ensures ∙ c.if-not-passed.true) count in
    rw (← c.self.view_is) (ap (λ (n : ℕ). placed i.tree.now.items i.tree.now.height i.from (i.index + n)) goes)

pub returns-else-not-passed : goal.returns-else-not-passed
returns-else-not-passed g c =
    let i = c.self.inside in
    let stops = λ (p : g.row.D-Value.Denot). g.G.Target.passes c.args.target.now p c.args.bias in
    let stays = seek_stays stops c.self.invariant.1 c.in-Some.is (sym c.passed.ensures ∙ c.if-not-passed.false) in
    let here : i.index ≡ i.index + seek_count g.D.Moves.moved g.T.Item.sum_of stops (place_behind g.D.Moves.moved g.T.Item.sum_of (g.D.Plain.plain i.from) (take i.index i.tree.now.items)) (drop i.index i.tree.now.items) = omega (arith, stays) in
    rw (← c.self.view_is) (ap (placed i.tree.now.items i.tree.now.height i.from) here)
