use Rattle.multi_buffer.proofs.Followed.{state_is}
use Rattle.multi_buffer.proofs.multi.MultiBuffer.known.Goals as goal

pub returns : goal.returns
returns c = state_is c.args.self.now c.self.inside.excerpts c.self.inside.sources.items c.self.view_is c.known.ensures c.self.invariant
