use Rattle.std.proofs.Common.{◌≡◌, ◌∙◌, ◌-◌, ◌≤◌, ℕ, suc, List, length, Some, None, sym, ap, subst, arith}
use Rattle.std.proofs.lemmas.List.{length_push}
use Rattle.remote_edit.specs.Finds.{place_of, HaveCells}
use Rattle.remote_edit.proofs.Finds.{Above, here_of, reached, further, ended, all_have, have_pushed}
use Rattle.remote_edit.proofs.by_index.find_cells.Goals.{then-first-from-via-then-first-from, then-first-from-via-else-first-from+then-cell-first}
use Rattle.remote_edit.proofs.Looks.{one_look}
use Rattle.remote_edit.proofs.by_index.find_cells.Goals as goal

pub returns-then-first-from-clause-kept : goal.returns-then-first-from-clause-kept
returns-then-first-from-clause-kept g c = all_have c.args.places.now.items c.loop-place.places.items c.push.new.self.items c.loop-place.invariant.kept (have_pushed c.loop-place.places.items c.push.new.self.items c.in-Some.place c.in_ok-push.ensures.items)

pub returns-then-first-from-clause-found : goal.returns-then-first-from-clause-found
returns-then-first-from-clause-found g c = λ found.
    let fs = c.args.tree.now.items in
    let w = c.args.index.now in
    let at : place_of c.args.stamp c.loop-place.cell w.entries fs ≡ Some (c.in-Some.place, c.in-Some.first) = cc in
    let here = here_of fs w found c.args.stamp c.loop-place.cell c.in-Some.place c.in-Some.first at in
    let b = here.by in
    let low : c.in-Some.first ≤ c.args.from = elim c.then-first-from.branch [
      | then-first-from-via-then-first-from v ↦ omega (arith, v.if-first-from.true)
      | then-first-from-via-else-first-from+then-cell-first v ↦ absurd (omega (arith, b, v.if-cell-first.true))
    ] in
    subst (HaveCells fs c.args.stamp c.args.from c.args.last) (sym c.in_ok-push.ensures.items)
    (reached fs w found c.args.stamp c.loop-place.cell c.in-Some.place c.in-Some.first c.args.from c.args.last c.loop-place.places.items here (c.loop-place.invariant.above found) low)

pub loop-place-preserved : goal.loop-place-preserved
loop-place-preserved g c =
    let fs = c.args.tree.now.items in
    let w = c.args.index.now in
    let at : place_of c.args.stamp c.loop-place.cell w.entries fs ≡ Some (c.in-Some.place, c.in-Some.first) = cc in
    let n : c.in-Some.first ≡ suc (c.in-Some.first - 1) = omega (arith, c.if-first-from.false) in
    record {
      kept = all_have c.args.places.now.items c.loop-place.places.items c.push.new.self.items c.loop-place.invariant.kept (have_pushed c.loop-place.places.items c.push.new.self.items c.in-Some.place c.in_ok-push.ensures.items);
      above = λ found. subst (λ (ps : List ℕ). Above fs w found c.args.stamp (c.in-Some.first - 1) c.args.last ps) (sym c.in_ok-push.ensures.items)
          (further fs w found c.args.stamp c.loop-place.cell c.in-Some.place c.in-Some.first c.args.last (c.in-Some.first - 1) c.loop-place.places.items (here_of fs w found c.args.stamp c.loop-place.cell c.in-Some.place c.in-Some.first at) (c.loop-place.invariant.above found) n);
      few = (let i = c.loop-place.invariant.few in
          let t = c.place_of.ensures.cost in
          let p = ap length c.in_ok-push.ensures.items ∙ length_push c.loop-place.places.items c.in-Some.place in
          omega (arith, i, t, p));
      cost = λ found. (let i = c.loop-place.invariant.cost found in
          let t = c.place_of.ensures.cost in
          let k = one_look fs w found c.args.stamp c.args.from c.loop-place.cell c.in-Some.place c.in-Some.first (c.in-Some.first - 1) (here_of fs w found c.args.stamp c.loop-place.cell c.in-Some.place c.in-Some.first at) (omega (arith, c.if-first-from.false)) n in
          omega (arith, i, t, k));
    }

pub returns-clause-found : goal.returns-clause-found
returns-clause-found g c = λ found.
    let fs = c.args.tree.now.items in
    let w = c.args.index.now in
    let at : place_of c.args.stamp c.loop-place.cell w.entries fs ≡ None = cc in
    ended fs w found c.args.stamp c.loop-place.cell c.args.from c.args.last c.loop-place.places.items at (c.loop-place.invariant.above found)
