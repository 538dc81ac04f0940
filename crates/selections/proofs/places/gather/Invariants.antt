use Rattle.std.proofs.Common.{◌≡◌, ◌++◌, drop, is_none}
use Rattle.std.specs.List.{filter_map, position, position_from}
use Rattle.selections.specs.Places.{place_of}
use Rattle.selections.proofs.places.gather.Given as goal

abbrev pub invariant-loop-i : goal.invariant-loop-i
invariant-loop-i l = record {
  places : l.places.items ++ filter_map (place_of l.snapshot) (drop l.i l.ranges) ≡ filter_map (place_of l.snapshot) l.ranges;
  unknown : position_from (λ r. is_none (place_of l.snapshot r)) l.i (drop l.i l.ranges) ≡ position (λ r. is_none (place_of l.snapshot r)) l.ranges;
}
