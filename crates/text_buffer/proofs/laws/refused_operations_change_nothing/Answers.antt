use Rattle.text_buffer.proofs.Taken.{refused_stays}
use Rattle.text_buffer.proofs.laws.refused_operations_change_nothing.Goals as goal

pub returns : goal.returns
returns c = refused_stays
