use Rattle.text_buffer.proofs.Opens.{apply_all}
use Rattle.text_buffer.proofs.laws.opened_buffers_apply_all.Goals as goal

pub returns : goal.returns
returns c = apply_all
