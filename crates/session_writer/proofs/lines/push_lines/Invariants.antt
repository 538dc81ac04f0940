use Rattle.std.proofs.Common.{◌≡◌, ◌++◌, length}
use Rattle.std.specs.List.{flat_map}
use Rattle.session_lines.specs.Cut.{lines_of}
use Rattle.session_writer.specs.Migrated.{written_line}
use Rattle.session_writer.specs.Readable.{AreReadable, AreWritten}
use Rattle.session_writer.proofs.lines.push_lines.Given as goal

abbrev pub invariant-loop-rest : goal.invariant-loop-rest
invariant-loop-rest l = record {
  readable : AreReadable (lines_of l.rest);
  text : l.out.items ++ flat_map written_line (lines_of l.rest) ≡ l.fn.out.items ++ flat_map written_line (lines_of l.text);
  written : AreWritten (lines_of l.rest) → AreWritten (lines_of l.text);
}

abbrev pub decreases-loop-rest : goal.decreases-loop-rest
decreases-loop-rest l = length l.rest
