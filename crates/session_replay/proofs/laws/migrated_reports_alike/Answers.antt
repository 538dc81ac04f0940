use Rattle.session_replay.proofs.Migrated.{migrated_reports_alike}
use Rattle.session_replay.proofs.laws.migrated_reports_alike.Goals as goal

pub returns : goal.returns
returns c = migrated_reports_alike
