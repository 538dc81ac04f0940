use Rattle.session_replay.proofs.Plain.{records_are_plain}
use Rattle.session_replay.proofs.laws.records_are_plain.Goals as goal

pub returns : goal.returns
returns c = records_are_plain
