use Rattle.std.proofs.Common.{◌≡◌, drop}
use Rattle.multi_buffer.specs.Splits.{first_sharing}
use Rattle.multi_buffer.proofs.multi.MultiBuffer.first_sharing.Given as goal

abbrev pub invariant-loop-i : goal.invariant-loop-i
invariant-loop-i l = first_sharing l.self.excerpts l.i (drop l.i l.changes) ≡ first_sharing l.self.excerpts 0 l.changes
