use Rattle.std.proofs.Common.{◌≡◌, ◌+◌, ◌≤◌, [], length}
use Rattle.session_lines.specs.Cut.{lines_of}
use Rattle.session_more.specs.Decoding.{more_lines_read}
use Rattle.session_more.proofs.decoding.rest_of.Given as goal

abbrev pub invariant-loop-rest : goal.invariant-loop-rest
invariant-loop-rest l = record {
  read : more_lines_read l.before l.lines.items (lines_of l.rest) ≡ more_lines_read l.fn.before [] (lines_of l.text);
  version : l.before.plain.version ≡ l.fn.before.plain.version;
  replicas : l.before.plain.replicas ≡ l.fn.before.plain.replicas;
  count : length l.lines.items + length l.rest ≤ length l.text;
}

abbrev pub decreases-loop-rest : goal.decreases-loop-rest
decreases-loop-rest l = length l.rest
