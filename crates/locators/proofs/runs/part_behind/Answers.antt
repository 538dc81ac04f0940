use Rattle.std.proofs.Common.{◌≡◌, ◌-◌, ◌++◌, ◌∷◌, [], List, length, take, ap, ◌∙◌}
use Rattle.locators.specs.Runs.{kept_runs}
use Rattle.locators.specs.declared.runs.Run.{Run}
use Rattle.std.proofs.lemmas.Result.{IfOk-weaker}
use Rattle.locators.proofs.RunLists.{front_and_part}
use Rattle.locators.proofs.runs.part_behind.Goals as goal

pub returns-clause-runs : goal.returns-clause-runs
returns-clause-runs c =
    let f : List Run = c.args.front.now in
    let l : List Run = c.args.last.now in
    let e : f ++ take (c.args.count - length f) l ≡ take c.args.count (f ++ l) = front_and_part f l c.args.count c.requires.all_front in
    IfOk-weaker c.behind.result (λ runs. kept_runs runs ≡ f ++ take (c.args.count - length f) l ++ c.args.run ∷ []) (λ runs. kept_runs runs ≡ take c.args.count (f ++ l) ++ c.args.run ∷ []) (λ x h. h ∙ ap (λ z. z ++ c.args.run ∷ []) e) c.behind.ensures.runs
