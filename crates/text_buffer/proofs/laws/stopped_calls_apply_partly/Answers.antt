use Rattle.text_buffer.proofs.Stopped.{stopped_apply_partly}
use Rattle.text_buffer.proofs.laws.stopped_calls_apply_partly.Goals as goal

pub returns : goal.returns
returns c = stopped_apply_partly
