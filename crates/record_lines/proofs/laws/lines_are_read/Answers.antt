use Rattle.record_lines.proofs.Returned.{lines_are_read}
use Rattle.record_lines.proofs.laws.lines_are_read.Goals as goal

pub returns : goal.returns
returns c = lines_are_read
