use Rattle.std.proofs.Common.{◌≡◌, map, take}
use Rattle.remote_edit.specs.Offsets.{piece_in}
use Rattle.remote_edit.proofs.offsets.full_pieces.Given as goal

abbrev pub invariant-loop-change : goal.invariant-loop-change
invariant-loop-change l = l.pieces.items ≡ map (piece_in l.tree.items) (take l.change-index l.changes)
