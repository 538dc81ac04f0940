use Rattle.text_buffer.proofs.Opens.{applied_opens}
use Rattle.text_buffer.proofs.laws.applied_operations_open.Goals as goal

pub returns : goal.returns
returns c = applied_opens c.args.buffer.now c.known.ensures
