use Rattle.std.proofs.Common.{◌-◌, length}
use Rattle.multi_buffer.proofs.Turns.{IsTurn}
use Rattle.multi_buffer.proofs.excerpts.Excerpts.follow.Given as goal

abbrev pub invariant-loop-members : goal.invariant-loop-members
invariant-loop-members l = IsTurn l.buffer l.snapshot l.self l.tree.items l.members.items l.found

abbrev pub decreases-loop-members : goal.decreases-loop-members
decreases-loop-members l = length l.found.items - l.found.next
