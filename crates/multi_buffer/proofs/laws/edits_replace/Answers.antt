use Rattle.multi_buffer.proofs.Through.{edits_replace}
use Rattle.multi_buffer.proofs.laws.edits_replace.Goals as goal

pub returns : goal.returns
returns c = edits_replace c.args.multi.now c.known.ensures.excerpts
