use Rattle.std.proofs.Common.{◌≡◌, ◌+◌, ◌≤◌, ◌*◌, ◌-◌, ◌^◌, drop, take}
use Rattle.op_model.specs.Domains.{AreUtf8}
use Rattle.op_model.specs.Operations.{text_total}
use Rattle.op_model.proofs.pieces.text_total.Given as goal

abbrev pub invariant-loop-p : goal.invariant-loop-p
invariant-loop-p l = record {
  sum : l.sum + text_total (drop l.p-index l.pieces) ≡ text_total l.pieces;
  small : l.sum ≤ (2 ^ 64 - 1) * l.p-index;
  utf8 : AreUtf8 (take l.p-index l.pieces);
}
