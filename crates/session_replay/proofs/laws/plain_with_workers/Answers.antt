use Rattle.session_replay.proofs.Replies.{plain_with_workers}
use Rattle.session_replay.proofs.laws.plain_with_workers.Goals as goal

pub returns : goal.returns
returns c = plain_with_workers
