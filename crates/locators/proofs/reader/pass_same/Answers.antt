use Rattle.std.proofs.Common.{◌≡◌, ◌++◌, ◌∷◌, List, ap, ◌∙◌, option_to_list}
use Rattle.locators.specs.Reading.{runs_ahead}
use Rattle.locators.specs.declared.runs.Run.{Run}
use Rattle.locators.proofs.Reading.{same_run}
use Rattle.locators.proofs.reader.pass_same.Goals as goal

pub same-preserved : goal.same-preserved
same-preserved c =
    let run : Run = c.in-Some.run'.now in
    let other : Run = c.in-Some-split_first.other.now in
    let xs : List Run = c.in-Some.behind.now ++ c.same.a.last.now ++ option_to_list c.same.a.pad in
    let ys : List Run = c.in-Some-split_first.rest.now ++ c.same.b.last.now ++ option_to_list c.same.b.pad in
    let e : runs_ahead c.same.a ≡ run ∷ xs = ap (λ z. z ++ c.same.a.last.now ++ option_to_list c.same.a.pad) c.in-Some.ensures.cases.0 in
    let f : runs_ahead c.same.b ≡ other ∷ ys = ap (λ z. z ++ c.same.b.last.now ++ option_to_list c.same.b.pad) c.in-Some-split_first.ensures.cases.0 in
    let s = same_run run other xs ys (runs_ahead c.same.a) (runs_ahead c.same.b) e f c.if-run-other.true c.if-run-other-2.true c.same.invariant.0 c.same.invariant.1 in
    (s.0, s.1, c.same.invariant.2 ∙ s.2)
