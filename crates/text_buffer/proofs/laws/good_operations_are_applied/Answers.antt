use Rattle.text_buffer.proofs.Taken.{good_counts}
use Rattle.text_buffer.proofs.laws.good_operations_are_applied.Goals as goal

pub returns : goal.returns
returns c = good_counts
