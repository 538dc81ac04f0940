use Rattle.record_lines.proofs.Feeds.{unpacks_to_one}
use Rattle.record_lines.proofs.laws.unpacks_to_one.Goals as goal

pub returns : goal.returns
returns c = unpacks_to_one
