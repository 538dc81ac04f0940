use Rattle.std.proofs.Common.{refl}
use Rattle.tree_tests.proofs.cursors.tree_of.Goals as goal

pub same-tree : goal.same-tree
same-tree c = refl
