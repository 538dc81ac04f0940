use Rattle.std.proofs.Common.{length, ap, ◌∙◌, arith}
use Rattle.sum_tree.proofs.Heights.{of_ok}
use Rattle.sum_tree.proofs.tree.SumTree.new.Goals as goal

pub from_entries_with-requires-clause-fits : goal.from_entries_with-requires-clause-fits
from_entries_with-requires-clause-fits g c = rw c.new.ensures.items g.met.T.Summary.Summary.laws.empty_fits

pub returns-clause-items : goal.returns-clause-items
returns-clause-items g c = of_ok c.from_entries_with.result c.from_entries_with.ensures.items (λ t e. e ∙ c.new.ensures.items)

pub returns-clause-height : goal.returns-clause-height
returns-clause-height g c = of_ok c.from_entries_with.result c.from_entries_with.ensures.height (λ t l. omega (arith, l, ap length c.new.ensures.items))
