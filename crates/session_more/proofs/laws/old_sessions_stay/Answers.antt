use Rattle.session_more.proofs.Plain.{old_sessions_stay}
use Rattle.session_more.proofs.laws.old_sessions_stay.Goals as goal

pub returns : goal.returns
returns c = old_sessions_stay
