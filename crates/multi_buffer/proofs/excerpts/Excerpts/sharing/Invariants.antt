use Rattle.std.proofs.Common.{◌-◌, length}
use Rattle.multi_buffer.proofs.Turns.{IsSeeking}
use Rattle.multi_buffer.proofs.excerpts.Excerpts.sharing.Given as goal

abbrev pub invariant-loop-member : goal.invariant-loop-member
invariant-loop-member l = IsSeeking l.part l.self l.found

abbrev pub decreases-loop-member : goal.decreases-loop-member
decreases-loop-member l = length l.found.items - l.found.next
