use Rattle.std.proofs.Common.{◌≡◌, drop}
use Rattle.op_model.specs.Edits.{overlap_from}
use Rattle.op_model.proofs.pieces.first_overlap.Given as goal

abbrev pub invariant-loop-i : goal.invariant-loop-i
invariant-loop-i l = overlap_from l.at l.i (drop l.i l.pieces) ≡ overlap_from 0 0 l.pieces
