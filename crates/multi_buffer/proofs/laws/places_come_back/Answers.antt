use Rattle.multi_buffer.proofs.Answering.{come_back}
use Rattle.multi_buffer.proofs.laws.places_come_back.Goals as goal

pub returns : goal.returns
returns c = come_back c.args.multi.now c.known.ensures.excerpts
