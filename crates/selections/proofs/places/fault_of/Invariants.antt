use Rattle.std.proofs.Common.{◌≡◌, drop, is_none}
use Rattle.std.specs.List.{position, position_from}
use Rattle.selections.specs.Places.{place_of}
use Rattle.selections.proofs.places.fault_of.Given as goal

abbrev pub invariant-loop-i : goal.invariant-loop-i
invariant-loop-i l = position_from (λ r. is_none (place_of l.snapshot r)) l.i (drop l.i l.ranges) ≡ position (λ r. is_none (place_of l.snapshot r)) l.ranges
