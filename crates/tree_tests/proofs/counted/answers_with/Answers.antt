use Rattle.std.proofs.Common.{refl}
use Rattle.tree_tests.proofs.counted.answers_with.Goals as goal

pub same-tree : goal.same-tree
same-tree g c = refl

pub same-steps-2 : goal.same-steps-2
same-steps-2 g c = refl
