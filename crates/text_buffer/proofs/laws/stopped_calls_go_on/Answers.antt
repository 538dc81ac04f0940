use Rattle.text_buffer.proofs.Stopped.{stopped_go_on}
use Rattle.text_buffer.proofs.laws.stopped_calls_go_on.Goals as goal

pub returns : goal.returns
returns c = stopped_go_on
