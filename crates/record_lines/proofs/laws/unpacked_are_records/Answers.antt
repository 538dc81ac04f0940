use Rattle.record_lines.proofs.Feeds.{unpacked_are_records}
use Rattle.record_lines.proofs.laws.unpacked_are_records.Goals as goal

pub returns : goal.returns
returns c = unpacked_are_records
