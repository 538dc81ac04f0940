use Rattle.record_lines.proofs.Feeds.{records_unpack}
use Rattle.record_lines.proofs.laws.records_unpack.Goals as goal

pub returns : goal.returns
returns c = records_unpack
