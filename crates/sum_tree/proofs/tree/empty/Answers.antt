use Rattle.std.proofs.Common.{◌∙◌, ap}
use Rattle.sum_tree.specs.Seen.{Seen}
use Rattle.sum_tree.proofs.Heights.{of_ok}
use Rattle.sum_tree.proofs.tree.empty.Goals as goal

pub returns-clause-items : goal.returns-clause-items
returns-clause-items g c = of_ok c.tree_of.result c.tree_of.ensures.tree (λ t e. ap (λ (s : Seen _). s.items) e ∙ c.new.ensures.items)

pub returns-clause-height : goal.returns-clause-height
returns-clause-height g c = of_ok c.tree_of.result c.tree_of.ensures.tree (λ t e. ap (λ (s : Seen _). s.height) e)
