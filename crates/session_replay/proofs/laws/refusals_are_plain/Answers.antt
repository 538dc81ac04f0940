use Rattle.session_replay.proofs.Plain.{refusals_are_plain}
use Rattle.session_replay.proofs.laws.refusals_are_plain.Goals as goal

pub returns : goal.returns
returns c = refusals_are_plain
