use Rattle.std.proofs.Common.{◌≡◌, length}
use Rattle.std.specs.Cmp.Lexicographic.{slice_cmp}
use Rattle.std.specs.Ordering.{nat_cmp}
use Rattle.locators.specs.Runs.{run_digits}
use Rattle.locators.specs.Reading.{runs_ahead, AreFull}
use Rattle.locators.proofs.reader.pass_same.Given as goal

abbrev pub invariant-same : goal.invariant-same
invariant-same l =
    AreFull (runs_ahead l.a) × AreFull (runs_ahead l.b)
    × (slice_cmp nat_cmp (run_digits (runs_ahead l.fn.a)) (run_digits (runs_ahead l.fn.b)) ≡ slice_cmp nat_cmp (run_digits (runs_ahead l.a)) (run_digits (runs_ahead l.b)))

abbrev pub decreases-same : goal.decreases-same
decreases-same l = length l.a.front.now
