-- What a tally counts of one part.
use Rattle.std.specs.Prelude.{◌≤◌}
use Rattle.std.proofs.Common.{arith}

pub one_step : 1 ≤ 1
one_step = omega arith

pub no_step : 0 ≤ 1
no_step = omega arith
