use Rattle.std.proofs.Common.{rules}
use Rattle.text_buffer.proofs.Fronts.{front_itself, front_trans}
use Rattle.bench.proofs.foldings.edit_all.Goals as goal

pub loop-init : goal.loop-init
loop-init c = front_itself c.args.buffer.now.history

pub loop-preserved : goal.loop-preserved
loop-preserved c = front_trans c.args.buffer.now.history c.loop.buffer.history c.edit.new.buffer.history c.loop.invariant (search rules)
