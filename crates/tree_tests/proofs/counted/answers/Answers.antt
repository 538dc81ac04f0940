use Rattle.std.proofs.Common.{refl, arith}
use Rattle.tree_tests.proofs.counted.answers.Goals as goal

pub answers_with-requires-clause-name : goal.answers_with-requires-clause-name
answers_with-requires-clause-name c = refl

pub answers_with-requires-clause-parts : goal.answers_with-requires-clause-parts
answers_with-requires-clause-parts c = refl

pub answers_with-requires-clause-some : goal.answers_with-requires-clause-some
answers_with-requires-clause-some c = omega (arith, c.new.ensures)
