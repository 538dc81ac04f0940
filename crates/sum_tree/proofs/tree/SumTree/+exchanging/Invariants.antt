use Rattle.std.proofs.Common.{◌+◌, ◌*◌}
use Rattle.sum_tree.proofs.tree.SumTree.+exchanging.Given as goal

abbrev pub decreases-exchange_in : goal.decreases-exchange_in
decreases-exchange_in g l = 4 * l.height + 1

abbrev pub decreases-exchange_in_children : goal.decreases-exchange_in_children
decreases-exchange_in_children g l = 4 * l.height

abbrev pub decreases-exchange_owned : goal.decreases-exchange_owned
decreases-exchange_owned g l = 4 * l.self.now.height + 2

abbrev pub decreases-exchange_here : goal.decreases-exchange_here
decreases-exchange_here g l = 4 * l.self.now.height + 3
