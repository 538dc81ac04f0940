use Rattle.std.proofs.Common.{◌+◌, ◌*◌}
use Rattle.sum_tree.proofs.tree.SumTree.+pushing.Given as goal

abbrev pub decreases-push_in : goal.decreases-push_in
decreases-push_in g l = 3 * l.height + 1

abbrev pub decreases-push_in_children : goal.decreases-push_in_children
decreases-push_in_children g l = 3 * l.height

abbrev pub decreases-push_here : goal.decreases-push_here
decreases-push_here g l = 3 * l.self.now.height + 2
