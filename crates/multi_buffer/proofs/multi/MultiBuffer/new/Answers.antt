use Rattle.multi_buffer.proofs.Followed.{new_is, new_multi}
use Rattle.multi_buffer.proofs.multi.MultiBuffer.new.Goals as goal

pub invariant_of-result : goal.invariant_of-result
invariant_of-result c = new_multi c.in_ok-excerpts.excerpts c.new-2.result.items c.in_ok-excerpts.ensures c.new-2.ensures.items

pub returns : goal.returns
returns c = new_is c.in_ok-excerpts.excerpts c.new-2.result.items c.in_ok-excerpts.ensures c.new-2.ensures.items
