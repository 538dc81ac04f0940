use Rattle.std.proofs.Common.{◌≡◌, ◌++◌, drop}
use Rattle.std.specs.String.{string_bytes}
use Rattle.op_model.specs.Shown.{texts}
use Rattle.rope_edits.proofs.moving.texts_of_pieces.Given as goal

abbrev pub invariant-loop-piece : goal.invariant-loop-piece
invariant-loop-piece l = record {
  text : string_bytes l.all ++ texts (drop l.piece-index l.pieces) ≡ texts l.pieces;
}
