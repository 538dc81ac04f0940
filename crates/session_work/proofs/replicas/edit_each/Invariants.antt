use Rattle.std.proofs.Common.{◌≡◌, ◌<◌, ◌^◌, ◌++◌, drop, length}
use Rattle.session_lines.specs.Report.{report_text}
use Rattle.session_work.specs.Later.{AllGrow}
use Rattle.session_work.specs.Parts.{after_parts_from, outcomes_from, settled_from}
use Rattle.session_work.proofs.Parts.{left_from}
use Rattle.session_work.proofs.replicas.edit_each.Given as goal

abbrev pub invariant-loop-index : goal.invariant-loop-index
invariant-loop-index l = record {
  many : length l.replicas ≡ length l.fn.replicas;
  few : length l.fn.replicas < 2 ^ 32;
  after : left_from l.parts 0 l.index l.replicas ≡ after_parts_from 0 l.parts l.fn.replicas;
  outcomes : l.outcomes.items ++ outcomes_from l.index l.parts (drop l.index l.replicas) ≡ outcomes_from 0 l.parts l.fn.replicas;
  settled : l.out.items ++ report_text (settled_from l.index l.parts (drop l.index l.replicas)) ≡ l.fn.out.items ++ report_text (settled_from 0 l.parts l.fn.replicas);
  grows : AllGrow l.fn.replicas l.replicas;
}
