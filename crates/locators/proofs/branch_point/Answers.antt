use Rattle.std.proofs.Common.{◌-◌, arith}
use Rattle.locators.specs.Runs.{kept_runs}
use Rattle.locators.proofs.Reading.{place_told, place_none}
use Rattle.locators.proofs.branch_point.Goals as goal

pub returns-in-None : goal.returns-in-None
returns-in-None c =
    place_none (kept_runs c.args.a.now) (kept_runs c.args.b.now) c.continuation.result c.continuation-2.result c.continuation.ensures c.continuation-2.ensures c.in-None.ensures

pub returns-in-Some : goal.returns-in-Some
returns-in-Some c =
    place_told (kept_runs c.args.a.now) (kept_runs c.args.b.now) c.continuation.result c.continuation-2.result c.in-Some.met c.in-Some.digit (c.len.result - c.len-in-Some.result) c.continuation.ensures c.continuation-2.ensures c.in-Some.ensures (omega (arith, c.len.ensures, c.len-in-Some.ensures))
