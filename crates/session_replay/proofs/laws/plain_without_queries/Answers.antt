use Rattle.session_replay.proofs.Replies.{plain_without_queries}
use Rattle.session_replay.proofs.laws.plain_without_queries.Goals as goal

pub returns : goal.returns
returns c = plain_without_queries
