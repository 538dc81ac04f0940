use Rattle.std.proofs.Common.{length}
use Rattle.sum_tree.proofs.around.+settle.Given as goal

abbrev pub decreases-settle : goal.decreases-settle
decreases-settle g l = length l.around.items
