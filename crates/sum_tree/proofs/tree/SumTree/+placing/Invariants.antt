use Rattle.std.proofs.Common.{◌+◌, ◌*◌}
use Rattle.sum_tree.proofs.tree.SumTree.+placing.Given as goal

abbrev pub decreases-place_in : goal.decreases-place_in
decreases-place_in g l = 3 * l.height + 1

abbrev pub decreases-place_in_children : goal.decreases-place_in_children
decreases-place_in_children g l = 3 * l.height

abbrev pub decreases-place_here : goal.decreases-place_here
decreases-place_here g l = 3 * l.self.now.height + 2
