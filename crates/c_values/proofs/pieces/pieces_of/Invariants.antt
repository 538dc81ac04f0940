use Rattle.std.proofs.Common.{◌≡◌, drop}
use Rattle.c_values.specs.Pieces.{pieces_from}
use Rattle.c_values.proofs.PiecesMade.{pieces_first}
use Rattle.c_values.proofs.pieces.pieces_of.Given as goal

abbrev pub invariant-loop-change : goal.invariant-loop-change
invariant-loop-change l = pieces_first l.pieces.items (pieces_from (drop l.change-index l.changes) l.rest) ≡ pieces_from l.changes l.texts
