use Rattle.text_buffer.proofs.Fronts.{front_itself, front_trans}
use Rattle.fold_map_tests.proofs.editor.take_all.Goals as goal

pub loop-op-init : goal.loop-op-init
loop-op-init g c = front_itself c.args.buffer.now.history

pub loop-op-preserved : goal.loop-op-preserved
loop-op-preserved g c = front_trans c.args.buffer.now.history c.loop-op.buffer.history c.take.new.buffer.history c.loop-op.invariant c.take.ensures
