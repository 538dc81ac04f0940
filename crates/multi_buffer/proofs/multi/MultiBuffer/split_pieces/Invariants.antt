use Rattle.std.proofs.Common.{◌≡◌, drop, map}
use Rattle.multi_buffer.specs.Groups.{pieces_in}
use Rattle.multi_buffer.specs.Splits.{split_from, split_of}
use Rattle.multi_buffer.proofs.multi.MultiBuffer.split_pieces.Given as goal

abbrev pub invariant-loop-change : goal.invariant-loop-change
invariant-loop-change l = split_from l.self.excerpts (drop l.change-index l.changes) (map pieces_in l.groups.items) ≡ split_of l.self l.changes
