use Rattle.std.proofs.Common.{length}
use Rattle.text_buffer.specs.Document.{IsFront}
use Rattle.fold_map_tests.proofs.editor.take_all.Given as goal

abbrev pub invariant-loop-op : goal.invariant-loop-op
invariant-loop-op g l = IsFront l.initial.buffer.history l.buffer.history

abbrev pub decreases-loop-op : goal.decreases-loop-op
decreases-loop-op g l = length l.ops.items
