use Rattle.std.proofs.Common.{length}
use Rattle.session_lines.proofs.parts.+join_of.Given as goal

abbrev pub decreases-join_of : goal.decreases-join_of
decreases-join_of l = length l.entries.now
