use Rattle.std.proofs.Common.{refl}
use Rattle.tree_bench.proofs.tree.keys.Goals as goal

pub same-tree : goal.same-tree
same-tree c = refl

pub by_keys-requires-2 : goal.by_keys-requires-2
by_keys-requires-2 c = c.by_keys.ensures

pub same-tree-2 : goal.same-tree-2
same-tree-2 c = refl

pub by_keys-requires-3 : goal.by_keys-requires-3
by_keys-requires-3 c = c.by_keys-2.ensures

pub same-tree-3 : goal.same-tree-3
same-tree-3 c = refl

pub by_keys-requires-4 : goal.by_keys-requires-4
by_keys-requires-4 c = c.by_keys-3.ensures
