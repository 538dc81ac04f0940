use Rattle.std.proofs.Common.{length}
use Rattle.locators.specs.Reading.{digits_left, GoAlong}
use Rattle.locators.proofs.reader.meet.Given as goal

abbrev pub invariant-along : goal.invariant-along
invariant-along l = GoAlong l.fn.a l.fn.b l.a l.b

abbrev pub decreases-along : goal.decreases-along
decreases-along l = length (digits_left l.a)
