use Rattle.std.proofs.Common.{◌≡◌, ◌+◌, ◌≤◌, [], length}
use Rattle.session_lines.specs.Before.{lines_read}
use Rattle.session_lines.specs.Cut.{lines_of}
use Rattle.session_lines.proofs.decoding.rest_of.Given as goal

abbrev pub invariant-loop-rest : goal.invariant-loop-rest
invariant-loop-rest l = record {
  read : lines_read l.before l.lines.items (lines_of l.rest) ≡ lines_read l.fn.before [] (lines_of l.text);
  version : l.before.version ≡ l.fn.before.version;
  replicas : l.before.replicas ≡ l.fn.before.replicas;
  count : length l.lines.items + length l.rest ≤ length l.text;
}

abbrev pub decreases-loop-rest : goal.decreases-loop-rest
decreases-loop-rest l = length l.rest
