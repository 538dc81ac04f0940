use Rattle.text_buffer.proofs.Settles.{all_miss}
use Rattle.text_buffer.proofs.Taken.{good_misses}
use Rattle.text_buffer.proofs.laws.waiting_operations_miss_causes.Goals as goal

pub returns-clause-settle : goal.returns-clause-settle
returns-clause-settle c = all_miss

pub returns-clause-take : goal.returns-clause-take
returns-clause-take c = good_misses
