use Rattle.std.proofs.Common.{◌≡◌, map, take}
use Rattle.c_values.specs.Stamps.{lamport}
use Rattle.c_values.proofs.stamps.stamps_of.Given as goal

abbrev pub invariant-loop-stamp : goal.invariant-loop-stamp
invariant-loop-stamp l = l.made.items ≡ map lamport (take l.stamp-index l.stamps)
