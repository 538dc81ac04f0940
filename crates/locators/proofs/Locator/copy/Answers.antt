use Rattle.std.proofs.Common.{◌≤◌, length, ap, arith}
use Rattle.std.proofs.lemmas.Bool.{false≢true}
use Rattle.locators.specs.Runs.{count_runs, kept_runs}
use Rattle.locators.specs.declared.TheConstants.{INLINE_RUNS}
use Rattle.locators.proofs.RunLists.{count_is}
use Rattle.locators.proofs.Locator.copy.Goals as goal

pub returns-in_err-runs-clause-short : goal.returns-in_err-runs-clause-short
returns-in_err-runs-clause-short c = λ h.
    let n = count_is (kept_runs c.self.inside.runs) c.self.invariant.0 in
    let m = ap count_runs c.self.view_is in
    let few : length (kept_runs c.self.inside.runs) ≤ INLINE_RUNS = omega (arith, n, m, h) in
    absurd (false≢true (c.in_err-runs.ensures.short few))
