use Rattle.std.proofs.Common.{◌≡◌, ◌++◌, drop}
use Rattle.op_model.specs.Rules.{pieces_under}
use Rattle.op_model.specs.declared.endings.Endings.TheVariants.{Lf}
use Rattle.text_buffer.proofs.entering.lf_pieces.Given as goal

abbrev pub invariant-loop-p : goal.invariant-loop-p
invariant-loop-p l = l.entered.items ++ pieces_under Lf (drop l.p-index l.pieces) ≡ pieces_under Lf l.pieces
