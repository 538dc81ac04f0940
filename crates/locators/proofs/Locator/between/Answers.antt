use Rattle.std.proofs.Common.{◌≡◌, ◌≤◌, ◌+◌, subst, sym, length, max}
use Rattle.locators.specs.Locator.{between_digits, IsLess, EndsAboveZero}
use Rattle.locators.specs.Runs.{run_digits, kept_runs}
use Rattle.locators.proofs.Between.{above, below_proper, length-between_digits}
use Rattle.locators.proofs.Locator.between.Goals as goal

digits : (c : goal.In_ok-runs) → run_digits (kept_runs c.in_ok-runs.runs) ≡ between_digits c.args.a.now c.args.b.now
digits c = cc (c.in_ok-runs.ensures.digits, c.a.view_is, c.b.view_is)

pub returns-clause-above : goal.returns-clause-above
returns-clause-above c = subst (λ z. IsLess c.args.a.now z) (sym (digits c)) (above c.args.a.now c.args.b.now).0

pub returns-clause-below : goal.returns-clause-below
returns-clause-below c = λ a_is b_is less. subst (λ z. IsLess z c.args.b.now) (sym (digits c)) (below_proper c.args.a.now c.args.b.now a_is b_is less)

pub returns-clause-ends : goal.returns-clause-ends
returns-clause-ends c = subst EndsAboveZero (sym (digits c)) (above c.args.a.now c.args.b.now).1

pub returns-clause-grows_by_one : goal.returns-clause-grows_by_one
returns-clause-grows_by_one c = subst (λ z. length z ≤ max (length c.args.a.now) (length c.args.b.now) + 1) (sym (digits c)) (length-between_digits c.args.a.now c.args.b.now)
