use Rattle.session_replay.proofs.Replies.{plain_without_workers}
use Rattle.session_replay.proofs.laws.plain_without_workers.Goals as goal

pub returns : goal.returns
returns c = plain_without_workers
