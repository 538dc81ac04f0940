use Rattle.std.proofs.Common.{length}
use Rattle.record_lines.proofs.Feeds.{IsAhead}
use Rattle.record_lines.proofs.unpacking.unpack.Given as goal

abbrev pub invariant-loop-rest : goal.invariant-loop-rest
invariant-loop-rest l = record {
  ahead : IsAhead l.bytes l.rest l.reader l.lines.items;
}

abbrev pub decreases-loop-rest : goal.decreases-loop-rest
decreases-loop-rest l = length l.rest
