use Rattle.std.proofs.Common.{◌≡◌, length, take}
use Rattle.fragments.specs.Index.{with_entries}
use Rattle.fragments.proofs.index.count.Given as goal

abbrev pub invariant-loop-i : goal.invariant-loop-i
invariant-loop-i l = l.count ≡ length (with_entries (take l.i l.recent) l.entries.items)
