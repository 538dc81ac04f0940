use Rattle.std.proofs.lemmas.Bool.{false≢true}
use Rattle.locators.specs.Runs.{kept_runs, digits_with}
use Rattle.locators.proofs.RunLists.{inline-front}
use Rattle.locators.proofs.runs_to.Goals as goal

pub returns-in_err-front-clause-short : goal.returns-in_err-front-clause-short
returns-in_err-front-clause-short c = λ l.
    absurd (false≢true (c.in_err-front.ensures.short (inline-front (digits_with (kept_runs c.args.runs.now) c.args.point.count c.args.point.part) c.args.point.digit l)))
