use Rattle.std.proofs.Common.{◌≡◌, ◌++◌, map}
use Rattle.std.specs.Vec.Iter.{into_iter_items}
use Rattle.session_replay.specs.Beside.{line_of}
use Rattle.session_replay.proofs.beside.answer_lines.Given as goal

abbrev pub invariant-loop-answer : goal.invariant-loop-answer
invariant-loop-answer l = l.lines.items ++ map line_of (into_iter_items l.answer-iterator) ≡ map line_of l.fn.answers.items
