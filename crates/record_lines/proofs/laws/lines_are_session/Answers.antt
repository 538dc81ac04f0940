use Rattle.record_lines.proofs.Sessions.{lines_are_session}
use Rattle.record_lines.proofs.laws.lines_are_session.Goals as goal

pub returns : goal.returns
returns c = lines_are_session
