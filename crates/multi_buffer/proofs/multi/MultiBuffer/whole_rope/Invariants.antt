use Rattle.std.proofs.Common.{◌≡◌, take}
use Rattle.multi_buffer.proofs.Lines.{shown}
use Rattle.multi_buffer.proofs.multi.MultiBuffer.whole_rope.Given as goal

abbrev pub invariant-loop-index : goal.invariant-loop-index
invariant-loop-index l = l.shown ≡ shown l.self.synced (take l.index l.self.excerpts)
