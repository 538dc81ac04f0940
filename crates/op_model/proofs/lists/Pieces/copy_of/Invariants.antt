use Rattle.std.proofs.Common.{◌≡◌, take}
use Rattle.op_model.proofs.lists.Pieces.copy_of.Given as goal

abbrev pub invariant-loop-p : goal.invariant-loop-p
invariant-loop-p l = l.copies.items ≡ take l.p-index l.pieces
