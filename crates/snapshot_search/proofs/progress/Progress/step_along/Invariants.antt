use Rattle.std.proofs.Common.{take}
use Rattle.snapshot_search.specs.Progress.{Reads}
use Rattle.snapshot_search.proofs.progress.Progress.step_along.Given as goal

abbrev pub invariant-loop-byte : goal.invariant-loop-byte
invariant-loop-byte l = Reads l.needle (take l.byte-index l.piece) l.initial.self l.self
