use Rattle.std.proofs.Common.{◌≡◌, ℕ, ◌+◌, ◌-◌, drop, refl, arith}
use Rattle.remote_edit.proofs.Ends.{found_any}
use Rattle.remote_edit.proofs.Passing.{place_room}
use Rattle.remote_edit.proofs.Starts.{left_of}
use Rattle.remote_edit.proofs.Stops.{none_after}
use Rattle.remote_edit.proofs.walk.Walk.seek.Goals as goal
use Rattle.remote_edit.proofs.walk.Walk.seek.Goals.{then-count-eq0-via-then-count-eq0, then-count-eq0-via-else-count-eq0+then-count-gt-MOST_CELLS}
use Rattle.fragments.proofs.Cells.{within_none}

pub overflow_add-target : goal.overflow_add-target
overflow_add-target c = let p = place_room c.args.edit.now.version c.args.self.now.tree.items c.args.self.now.at c.args.self.now.place c.requires.fit c.requires.place in omega (arith, p, c.if-count-gt-MOST_CELLS.false)

pub overflow_sub-result : goal.overflow_sub-result
overflow_sub-result c =
    let s = c.args.self.now in
    (found_any c.args.edit.now.stamp c.args.edit.now.version s.tree.items c.args.count s.at s.place c.in_ok-stop.stop.at c.in_ok-stop.stop.place c.in_ok-stop.ensures.index c.in_ok-stop.ensures.place c.requires.place c.requires.within (omega (arith, c.if-count-eq0.false))).low

pub returns-clause-sought : goal.returns-clause-sought
returns-clause-sought c =
    let s = c.args.self.now in
    (found_any c.args.edit.now.stamp c.args.edit.now.version s.tree.items c.args.count s.at s.place c.in_ok-stop.stop.at c.in_ok-stop.stop.place c.in_ok-stop.ensures.index c.in_ok-stop.ensures.place c.requires.place c.requires.within (omega (arith, c.if-count-eq0.false))).sought

pub returns-clause-left : goal.returns-clause-left
returns-clause-left c = λ a m.
    let v = c.args.edit.now.version in
    let s = c.args.self.now in
    let q : ℕ = c.in_ok-stop.stop.place in
    let f = found_any c.args.edit.now.stamp c.args.edit.now.version s.tree.items c.args.count s.at s.place c.in_ok-stop.stop.at c.in_ok-stop.stop.place c.in_ok-stop.ensures.index c.in_ok-stop.ensures.place c.requires.place c.requires.within (omega (arith, c.if-count-eq0.false)) in
    let d : q + (s.place + c.args.count - q) ≡ s.place + c.args.count = omega (arith, f.low) in
    left_of v s.tree.items s.at c.in_ok-stop.stop.at c.args.count (s.place + c.args.count - q) s.place q a c.requires.fit.0 f.on c.requires.within c.requires.place f.sought.place d f.within

pub returns-then-count-eq0-clause-left : goal.returns-then-count-eq0-clause-left
returns-then-count-eq0-clause-left c = λ a m.
    let n = c.args.count in
    let s = c.args.self.now in
    let xs = s.tree.items in
    elim c.then-count-eq0.branch [
      | then-count-eq0-via-then-count-eq0 w ↦ left_of c.args.edit.now.version xs s.at s.at n n s.place s.place a c.requires.fit.0 (omega arith) c.requires.within c.requires.place c.requires.place refl (within_none n (drop s.at xs) (omega (arith, w.if-count-eq0.true)))
      | then-count-eq0-via-else-count-eq0+then-count-gt-MOST_CELLS w ↦ absurd (omega (arith, w.if-count-gt-MOST_CELLS.true, m))
    ]

pub returns-then-count-eq0-clause-passed : goal.returns-then-count-eq0-clause-passed
returns-then-count-eq0-clause-passed c = λ z. none_after c.args.self.now.tree.items c.args.self.now.at z
