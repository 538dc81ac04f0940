use Rattle.text_buffer.specs.Document.{IsFront}
use Rattle.fold_map_tests.proofs.rows.good_steps.Given as goal

abbrev pub invariant-loop-index : goal.invariant-loop-index
invariant-loop-index g l = IsFront l.map.history l.authors.own.history
