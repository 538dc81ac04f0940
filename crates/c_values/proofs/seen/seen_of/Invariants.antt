use Rattle.std.proofs.Common.{◌≡◌, map, take}
use Rattle.c_values.specs.Seen.{seen}
use Rattle.c_values.proofs.seen.seen_of.Given as goal

abbrev pub invariant-loop-replica : goal.invariant-loop-replica
invariant-loop-replica l = l.made.items ≡ map seen (take l.replica-index l.entries)
