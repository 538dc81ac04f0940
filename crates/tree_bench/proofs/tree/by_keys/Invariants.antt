use Rattle.std.proofs.Common.{nat_cmp}
use Rattle.sum_tree.specs.Keyed.{Ascending}
use Rattle.tree_bench.specs.Items.{number_key}
use Rattle.tree_bench.proofs.tree.by_keys.Given as goal

abbrev pub invariant-loop-number : goal.invariant-loop-number
invariant-loop-number l = Ascending nat_cmp number_key l.tree.items
