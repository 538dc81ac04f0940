use Rattle.std.proofs.Common.{◌≡◌, map, take}
use Rattle.c_values.specs.Seen.{entry}
use Rattle.c_values.proofs.seen.entries_of.Given as goal

abbrev pub invariant-loop-it : goal.invariant-loop-it
invariant-loop-it l = l.entries.items ≡ map entry (take l.it-index l.seen)
