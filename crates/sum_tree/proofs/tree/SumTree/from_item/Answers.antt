use Rattle.std.proofs.Common.{length, ap, arith}
use Rattle.sum_tree.proofs.Heights.{of_ok}
use Rattle.sum_tree.proofs.tree.SumTree.from_item.Goals as goal

pub returns-clause-height : goal.returns-clause-height
returns-clause-height g c =
    of_ok c.from_entries_with.result c.from_entries_with.ensures.height (λ t l. omega (arith, l, ap length c.in_ok-entries.ensures))
