use Rattle.std.proofs.Common.{◌≡◌, length}
use Rattle.std.specs.Cmp.Lexicographic.{slice_cmp}
use Rattle.std.specs.Ordering.{nat_cmp}
use Rattle.locators.specs.Reading.{digits_left, IsReady}
use Rattle.locators.proofs.reader.order.Given as goal

abbrev pub invariant-equal : goal.invariant-equal
invariant-equal l =
    IsReady l.a × IsReady l.b
    × (slice_cmp nat_cmp (digits_left l.fn.a) (digits_left l.fn.b) ≡ slice_cmp nat_cmp (digits_left l.a) (digits_left l.b))

abbrev pub decreases-equal : goal.decreases-equal
decreases-equal l = length (digits_left l.a)
