use Rattle.std.proofs.Common.{arith}
use Rattle.tree_tests.proofs.changes.listed_tree.Goals as goal

pub from_list-requires-clause-fits : goal.from_list-requires-clause-fits
from_list-requires-clause-fits g c = g.met.T.Numbered.sums_fit c.in_ok-items.items.items (omega arith)
