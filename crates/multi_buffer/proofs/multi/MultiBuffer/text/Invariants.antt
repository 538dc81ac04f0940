use Rattle.std.proofs.Common.{◌≡◌, take}
use Rattle.std.specs.String.{string_bytes}
use Rattle.multi_buffer.proofs.Lines.{shown}
use Rattle.multi_buffer.proofs.multi.MultiBuffer.text.Given as goal

abbrev pub invariant-loop-index : goal.invariant-loop-index
invariant-loop-index l = string_bytes l.shown ≡ shown l.self.synced (take l.index l.self.excerpts)
