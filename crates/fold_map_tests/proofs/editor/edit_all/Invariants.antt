use Rattle.text_buffer.specs.Document.{IsFront}
use Rattle.fold_map_tests.proofs.editor.edit_all.Given as goal

abbrev pub invariant-loop-change : goal.invariant-loop-change
invariant-loop-change g l = IsFront l.initial.buffer.history l.buffer.history
