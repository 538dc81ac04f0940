use Rattle.text_buffer.specs.Document.{IsFront}
use Rattle.bench.proofs.foldings.follow_all.Given as goal

abbrev pub invariant-loop : goal.invariant-loop
invariant-loop l = IsFront l.map.history l.buffer.history
