use Rattle.text_buffer.proofs.Fronts.{front_itself, front_trans}
use Rattle.fold_map_tests.proofs.editor.edit_all.Goals as goal

pub loop-change-init : goal.loop-change-init
loop-change-init g c = front_itself c.args.buffer.now.history

pub loop-change-preserved : goal.loop-change-preserved
loop-change-preserved g c = front_trans c.args.buffer.now.history c.loop-change.buffer.history c.edit.new.buffer.history c.loop-change.invariant c.edit.ensures
