use Rattle.std.proofs.Common.{◌≡◌, slice_index}
use Rattle.snapshot_search.specs.Starts.{starts_between}
use Rattle.snapshot_search.proofs.parts.find_in_parts.Given as goal

abbrev pub invariant-loop-j : goal.invariant-loop-j
invariant-loop-j g l = l.all.items ≡ starts_between l.rope l.needle 0 (slice_index l.cuts l.j)
