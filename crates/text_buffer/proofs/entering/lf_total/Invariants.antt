use Rattle.std.proofs.Common.{◌≡◌, ◌+◌, ◌≤◌, ◌*◌, ◌-◌, ◌^◌, drop}
use Rattle.op_model.specs.Operations.{text_total}
use Rattle.op_model.specs.Rules.{pieces_under}
use Rattle.op_model.specs.declared.endings.Endings.TheVariants.{Lf}
use Rattle.text_buffer.proofs.entering.lf_total.Given as goal

abbrev pub invariant-loop-p : goal.invariant-loop-p
invariant-loop-p l = record {
  sum : l.sum + text_total (pieces_under Lf (drop l.p-index l.pieces)) ≡ text_total (pieces_under Lf l.pieces);
  small : l.sum ≤ (2 ^ 64 - 1) * l.p-index;
}
