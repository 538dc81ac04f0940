use Rattle.std.proofs.Common.{◌≡◌, drop}
use Rattle.op_model.specs.Edits.{replace_ranges}
use Rattle.op_model.specs.Domains.{AreUtf8}
use Rattle.rope_edits.proofs.ranges.replace_ranges.Given as goal

abbrev pub invariant-loop-i : goal.invariant-loop-i
invariant-loop-i l = record {
  text : l.new ≡ replace_ranges (drop l.i l.changes) l.rope;
  utf8 : AreUtf8 (drop l.i l.changes);
}
