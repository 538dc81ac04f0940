use Rattle.std.proofs.Common.{arith}
use Rattle.locators.specs.Runs.{kept_runs}
use Rattle.locators.proofs.RunLists.{take_in_last}
use Rattle.locators.proofs.runs.Runs.before.Goals as goal

pub returns-else-count-front : goal.returns-else-count-front
returns-else-count-front c =
    (omega (arith, c.if-count-front.false), take_in_last c.parts.result.0.now c.parts.result.1.now (kept_runs c.args.self.now) c.args.count (record { digit = 0; count = 0 }) c.parts.ensures (omega (arith, c.if-count-front.false)) c.requires)
