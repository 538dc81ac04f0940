use Rattle.std.proofs.Common.{◌≡◌, ◌+◌, ◌-◌, ◌≤◌, length, drop}
use Rattle.fragments.specs.Stamps.{place_of}
use Rattle.fragments.proofs.stamps.place_in.Given as goal

abbrev pub invariant-loop-at : goal.invariant-loop-at
invariant-loop-at l = record {
  within : l.at ≤ length l.stamps;
  place : place_of l.t l.stamps ≡ l.at + place_of l.t (drop l.at l.stamps);
}

abbrev pub decreases-loop-at : goal.decreases-loop-at
decreases-loop-at l = length l.stamps - l.at
