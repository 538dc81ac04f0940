use Rattle.text_buffer.proofs.Opens.{acts_alike}
use Rattle.text_buffer.proofs.laws.opened_buffers_act_alike.Goals as goal

pub returns : goal.returns
returns c = acts_alike
