use Rattle.session_replay.proofs.OldReports.{old_reports_stay}
use Rattle.session_replay.proofs.laws.old_reports_stay.Goals as goal

pub returns : goal.returns
returns c = old_reports_stay
